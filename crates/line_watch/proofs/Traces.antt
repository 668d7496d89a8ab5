-- Two legal histories with the same parts: each instrument shows the same in them, in the same order.
use Rattle.std.proofs.Common.{◌≡◌, ◌≢◌, ◌⊎◌, inl, inr, ⊎_elim, ℕ, ◌+◌, ◌<◌, List, [], ◌∷◌, ◌++◌, Bool, true, false}
use Rattle.std.proofs.Common.{length, Option, Some, None, refl, sym, ap, ◌∙◌, subst, arith}
use Rattle.std.proofs.Common.{append_assoc, append-nil, ◌==◌}
use Rattle.std.specs.Prelude.{slice_index_or, ◌&&◌}
use Rattle.std.proofs.lemmas.Bool.Decides.{eqb_tells}
use Rattle.std.proofs.lemmas.List.{get_or-set_same}
use mathlib.Core.List.{IsPrefix}
use Rattle.block_words.specs.declared.Position.{Position}
use Rattle.block_words.specs.declared.Position.TheVariants as shows
use Rattle.block_words.specs.declared.Way.{Way}
use Rattle.block_words.specs.declared.Way.TheVariants.{Up, Down}
use Rattle.line_plan.specs.Plans.{IsPlan, PlanFields}
use Rattle.line_plan.specs.Sections.{IsSection}
use Rattle.line_plan.specs.declared.section.Section.{Section}
use Rattle.line_law.specs.declared.call.Act.{Act}
use Rattle.line_law.specs.declared.call.Entry.{Entry}
use Rattle.line_law.specs.declared.call.Reply.{Reply}
use Rattle.line_law.specs.declared.call.Reply.TheVariants.{BlockNotYet, HeldByInstrument, PulledUnder, Seen, Turned}
use Rattle.line_law.specs.declared.link.Link.TheVariants.{Out}
use Rattle.line_law.specs.declared.state.Block.{Block}
use Rattle.line_law.specs.declared.state.PairState.{PairState}
use Rattle.line_law.specs.History.{IsLegal, IsLegalFrom, after_entry, part_of, state_after, state_of}
use Rattle.line_law.specs.Instruments.{same_position}
use Rattle.line_law.specs.Known.{KnowsCall}
use Rattle.line_law.specs.Law.{step}
use Rattle.line_law.specs.Links.{pair_no}
use Rattle.line_law.specs.States.{IsStateOf, LineState, opening_pair, opening_state, pair_at}
use Rattle.line_law.specs.Ways.{of_way}
use Rattle.line_law.proofs.Histories.{entry_determined, history_states, prefix_legal, state_grows}
use Rattle.line_law.proofs.Keeping.{shape_stays}
use Rattle.line_law.proofs.Opens.{opening_shape}
use Rattle.line_law.proofs.Sides.{call_within}
use Rattle.word_laws.specs.Footprint.{BellWord, BlockWord, Kind, PlainLineWord, Tally, way_at}
use Rattle.word_laws.specs.TellsWord.{kind_told}
use Rattle.word_laws.proofs.Rises.{pair_written}
use Rattle.line_journal.specs.Fits.{FitsBlock, FitsWord, block_made, position_of, word_made}
use Rattle.line_journal.specs.Halves.{found_at, pair_for, pair_made}
use Rattle.line_journal.proofs.Legal.{fits_in, pairs_after}
use Rattle.instrument_rule.proofs.Lasting.{out_pair}
use Rattle.instrument_rule.proofs.Parts.{part-append, part_other, part_own}
use Rattle.line_watch.specs.declared.sight.Sight.{Sight}
use Rattle.line_watch.specs.Sights.{IsRightAfter, instrument_after}
use Rattle.line_watch.proofs.Firsts.{ages_to, right_there}
use Rattle.line_watch.proofs.Marks.{Follows}

-- ---- what an entry alone tells of its instrument

-- the instrument as a turn or a pull leaves it
abbrev pub block_shown : Act → Reply → Option Block
block_shown act (Turned v) = Some (record { turns = v; position = position_of act; spent = false })
block_shown act (PulledUnder v) = Some (record { turns = v; position = shows.LineClear; spent = true })
block_shown act (HeldByInstrument way shown spent v) = Some (record { turns = v; position = shown; spent = true })
block_shown act reply = None

line_clear : (p : Position) (t : Bool) → (same_position p shows.LineClear && t) ≡ true → p ≡ shows.LineClear
line_clear shows.Normal t e = absurd cc
line_clear shows.LineClear t e = refl
line_clear shows.TrainOnLine t e = absurd cc

spent_alike : (v u : ℕ) (p q : Position) → v ≡ u → p ≡ q
    → record { turns = v; position = p; spent = true } ≡ (let block : Block =
    record { turns = u; position = q; spent = true } in block)
spent_alike v u p q e f =
    ap (λ (n : ℕ). let block : Block = record { turns = n; position = p; spent = true } in block) e
    ∙ ap (λ (x : Position). let block : Block = record { turns = u; position = x; spent = true } in block) f

own_word : (act : Act) (reply : Reply) (block : Block) → FitsBlock act reply block
    → (block_made act reply block ≡ block) ⊎ (block_shown act reply ≡ Some (block_made act reply block))
own_word act (Turned v) block fits = inr refl
own_word act (Seen v) block fits = inl refl
own_word act (BlockNotYet shown v) block fits = inl refl
own_word act (PulledUnder v) block fits =
    inr (ap Some (spent_alike v block.turns shows.LineClear block.position (sym fits.0)
    (sym (line_clear block.position _ fits.1))))
own_word act (HeldByInstrument way shown spent v) block fits =
    inr (ap Some (spent_alike v block.turns shown block.position (sym fits.0) (sym fits.1)))
own_word act reply block fits = absurd fits

shown_back : (act : Act) (reply : Reply) (block shown : Block) → FitsBlock act reply block
    → block_shown act reply ≡ Some shown → block_made act reply block ≡ shown
shown_back act (Turned v) block shown fits e = cc
shown_back act (PulledUnder v) block shown fits e =
    let same = spent_alike v block.turns shows.LineClear block.position (sym fits.0)
    (sym (line_clear block.position _ fits.1)) in
    let there : record { turns = v; position = shows.LineClear; spent = true } ≡ shown = cc in
    sym same ∙ there
shown_back act (HeldByInstrument way position spent v) block shown fits e =
    let same = spent_alike v block.turns position block.position (sym fits.0) (sym fits.1) in
    let there : record { turns = v; position = position; spent = true } ≡ shown = cc in
    sym same ∙ there
shown_back act reply block shown fits e = absurd cc

-- ---- in a pair

kind_case : (k : Kind) (way w : Way) (act : Act) (reply : Reply) (pair : PairState) → FitsWord k way act reply pair
    → (of_way (word_made k way act reply pair).blocks w ≡ of_way pair.blocks w)
    ⊎ ((k ≡ BlockWord) × (way ≡ w)
    × (block_shown act reply ≡ Some (of_way (word_made k way act reply pair).blocks w)))
kind_case Tally way w act reply pair fits = inl refl
kind_case BellWord way w act reply pair fits = inl refl
kind_case PlainLineWord way w act reply pair fits = inl refl
kind_case BlockWord Up Up act reply pair fits =
    ⊎_elim (λ e. inl e) (λ e. inr (refl, refl, e)) (own_word act reply pair.blocks.up fits)
kind_case BlockWord Up Down act reply pair fits = inl refl
kind_case BlockWord Down Up act reply pair fits = inl refl
kind_case BlockWord Down Down act reply pair fits =
    ⊎_elim (λ e. inl e) (λ e. inr (refl, refl, e)) (own_word act reply pair.blocks.down fits)

kind_back : (k : Kind) (way w : Way) (act : Act) (reply : Reply) (pair : PairState) (shown : Block) → k ≡ BlockWord
    → way ≡ w → FitsWord k way act reply pair → block_shown act reply ≡ Some shown
    → of_way (word_made k way act reply pair).blocks w ≡ shown
kind_back Tally way w act reply pair shown k same fits e = absurd cc
kind_back BellWord way w act reply pair shown k same fits e = absurd cc
kind_back PlainLineWord way w act reply pair shown k same fits e = absurd cc
kind_back BlockWord Up Up act reply pair shown k same fits e = shown_back act reply pair.blocks.up shown fits e
kind_back BlockWord Up Down act reply pair shown k same fits e = absurd cc
kind_back BlockWord Down Up act reply pair shown k same fits e = absurd cc
kind_back BlockWord Down Down act reply pair shown k same fits e = shown_back act reply pair.blocks.down shown fits e

-- ---- in a line

-- the instrument of a pair and a way, in a state of the line
abbrev pub block_in : LineState → ℕ → Way → Block
block_in state q w = of_way (pair_at state q).blocks w

-- an entry is on that instrument, and tells how it leaves it
pub record ShowsAt (plan : PlanFields) (e : Entry) (q : ℕ) (w : Way) (block : Block) : Type 0 where
  pub kind : kind_told e.reply ≡ BlockWord
  pub pair : pair_for plan e ≡ q
  pub way : way_at plan e.box_no e.call ≡ w
  pub shown : block_shown e.call.act e.reply ≡ Some block

-- an entry leaves an instrument as it was, or tells how it leaves it
abbrev StaysOrShows : PlanFields → LineState → Entry → Way → ℕ → PairState → Type 0
StaysOrShows plan state e w q pair =
    (of_way pair.blocks w ≡ block_in state q w) ⊎ ShowsAt plan e q w (of_way pair.blocks w)

-- a call leaves an instrument as it is, or its entry tells what it shows
pub step_shows : (plan : PlanFields) (state : LineState) (e : Entry) (q : ℕ) (w : Way) → IsPlan plan
    → IsStateOf plan state → KnowsCall plan e.box_no e.call → e.reply ≡ (step plan state e.box_no e.call).reply
    → (block_in (after_entry plan state e) q w ≡ block_in state q w)
    ⊎ ShowsAt plan e q w (block_in (after_entry plan state e) q w)
step_shows plan state e q w is shape known told =
    let within = call_within plan e.box_no e.call is known in
    let p = pair_for plan e in
    let there : p < length state.pairs = omega (arith, shape.pairs, within.pair) in
    let own : StaysOrShows plan state e w p (pair_made plan e (found_at state.pairs p)) =
    ⊎_elim (λ h. inl h) (λ h. inr (record { kind = h.0; pair = refl; way = h.1; shown = h.2 }))
    (kind_case (kind_told e.reply) (way_at plan e.box_no e.call) w e.call.act e.reply (found_at state.pairs p)
    (fits_in plan state e told)) in
    subst (λ (ps : List PairState). StaysOrShows plan state e w q (slice_index_or ps q opening_pair))
    (sym (pairs_after plan state e told))
    (pair_written (λ k x. StaysOrShows plan state e w k x) state.pairs p _ q there own (inl refl))

-- what an entry tells of an instrument is what it shows
pub step_back : (plan : PlanFields) (state : LineState) (e : Entry) (q : ℕ) (w : Way) (shown : Block)
    → e.reply ≡ (step plan state e.box_no e.call).reply → q < length state.pairs → ShowsAt plan e q w shown
    → block_in (after_entry plan state e) q w ≡ shown
step_back plan state e q w shown told lt h =
    let p = pair_for plan e in
    let there : p < length state.pairs = subst (λ (n : ℕ). n < length state.pairs) (sym h.pair) lt in
    let new = pair_made plan e (found_at state.pairs p) in
    let at : slice_index_or (after_entry plan state e).pairs p opening_pair ≡ new =
    ap (λ (ps : List PairState). slice_index_or ps p opening_pair) (pairs_after plan state e told)
    ∙ get_or-set_same state.pairs p new opening_pair there in
    let own : of_way new.blocks w ≡ shown =
    kind_back (kind_told e.reply) (way_at plan e.box_no e.call) w e.call.act e.reply (found_at state.pairs p) shown
    h.kind h.way (fits_in plan state e told) h.shown in
    subst (λ (n : ℕ). of_way (slice_index_or (after_entry plan state e).pairs n opening_pair).blocks w ≡ shown) h.pair
    (ap (λ (x : PairState). of_way x.blocks w) at ∙ own)

-- ---- along a history

-- an entry of a history that tells how the history leaves an instrument
record IsLastShown (plan : PlanFields) (es : List Entry) (q : ℕ) (w : Way) (block : Block) : Type 0 where
  before : List Entry
  e : Entry
  more : List Entry
  split : before ++ e ∷ more ≡ es
  shows_it : ShowsAt plan e q w block

last_shown : (plan : PlanFields) (state : LineState) (es : List Entry) (q : ℕ) (w : Way) → IsPlan plan
    → IsStateOf plan state → IsLegalFrom plan state es
    → (block_in (state_after plan state es) q w ≡ block_in state q w)
    ⊎ IsLastShown plan es q w (block_in (state_after plan state es) q w)
last_shown plan state [] q w is shape legal = inl refl
last_shown plan state (e ∷ es) q w is shape legal =
    let next = after_entry plan state e in
    let shape' = shape_stays plan state e.box_no e.call shape in
    ⊎_elim
    (λ (same : block_in (state_after plan next es) q w ≡ block_in next q w).
    ⊎_elim (λ stays. inl (same ∙ stays))
    (λ (h : ShowsAt plan e q w (block_in next q w)). inr (record {
      before = [];
      e = e;
      more = es;
      split = refl;
      shows_it = subst (λ (b : Block). ShowsAt plan e q w b) (sym same) h;
    }))
    (step_shows plan state e q w is shape legal.0.known legal.1))
    (λ (h : IsLastShown plan es q w (block_in (state_after plan next es) q w)). inr (record {
      before = e ∷ h.before;
      e = h.e;
      more = h.more;
      split = ap (λ (l : List Entry). e ∷ l) h.split;
      shows_it = h.shows_it;
    }))
    (last_shown plan next es q w is shape' legal.2)

-- an entry of a part stands in the whole
record StandsIn (es : List Entry) (x : Entry) : Type 0 where
  before : List Entry
  more : List Entry
  split : before ++ x ∷ more ≡ es

nothing_there : (xs : List Entry) (x : Entry) (ys : List Entry) → [] ≡ xs ++ x ∷ ys → ⊥
nothing_there [] x ys e = cc
nothing_there (a ∷ xs) x ys e = cc

own_first : (b : ℕ) (e : Entry) (es xs : List Entry) (x : Entry) (ys : List Entry) → e ∷ part_of b es ≡ xs ++ x ∷ ys
    → ((xs' : List Entry) → part_of b es ≡ xs' ++ x ∷ ys → StandsIn es x) → StandsIn (e ∷ es) x
own_first b e es [] x ys h rest =
    let same : x ≡ e = cc in
    record { before = []; more = es; split = ap (λ (y : Entry). y ∷ es) same }
own_first b e es (a ∷ xs) x ys h rest =
    let tails : part_of b es ≡ xs ++ x ∷ ys = cc in
    let r = rest xs tails in
    record { before = e ∷ r.before; more = r.more; split = ap (λ (l : List Entry). e ∷ l) r.split }

stands_in : (b : ℕ) (es xs : List Entry) (x : Entry) (ys : List Entry) → part_of b es ≡ xs ++ x ∷ ys → StandsIn es x
stands_in b [] xs x ys h = absurd (nothing_there xs x ys h)
stands_in b (e ∷ es) xs x ys h =
    ⊎_elim
    (λ (t : ((e.box_no == b) ≡ true) × (e.box_no ≡ b)). own_first b e es xs x ys (sym (part_own b e es t.1) ∙ h)
    (λ xs' g. stands_in b es xs' x ys g))
    (λ (t : ((e.box_no == b) ≡ false) × (e.box_no ≢ b)).
    let r = stands_in b es xs x ys (sym (part_other b e es t.1) ∙ h) in
    record { before = e ∷ r.before; more = r.more; split = ap (λ (l : List Entry). e ∷ l) r.split })
    (eqb_tells e.box_no b)

-- two histories have the same parts
abbrev pub SameParts : List Entry → List Entry → Type 0
SameParts log other = (b : ℕ) → part_of b log ≡ part_of b other

-- what an instrument shows after a beginning of one, it shows after one of the other
record ShownThere (plan : PlanFields) (other : List Entry) (section : Section) (block : Block) : Type 0 where
  there : List Entry
  begins : IsPrefix there other
  same : instrument_after plan there section ≡ block

shown_there : (plan : PlanFields) (log other before : List Entry) (section : Section) → IsPlan plan
    → IsSection plan section → IsLegal plan log → IsLegal plan other → SameParts log other → IsPrefix before log
    → ShownThere plan other section (instrument_after plan before section)
shown_there plan log other before section is at legal legal' parts begins =
    ⊎_elim
    (λ (same : block_in (state_of plan before) q w ≡ block_in (opening_state plan) q w).
    record { there = []; begins = (other, refl); same = sym same })
    (λ (h : IsLastShown plan before q w (block_in (state_of plan before) q w)).
    let all : h.before ++ h.e ∷ (h.more ++ begins.0) ≡ log = sym (append_assoc h.before (h.e ∷ h.more) begins.0)
    ∙ (ap (λ (l : List Entry). l ++ begins.0) h.split ∙ begins.1) in
    let b = h.e.box_no in
    let mine : part_of b log ≡ part_of b h.before ++ h.e ∷ part_of b (h.more ++ begins.0) =
    ap (part_of b) (sym all) ∙ (part-append b h.before (h.e ∷ (h.more ++ begins.0))
    ∙ ap (λ (l : List Entry). part_of b h.before ++ l) (part_own b h.e (h.more ++ begins.0) refl)) in
    let r = stands_in b other (part_of b h.before) h.e (part_of b (h.more ++ begins.0)) (sym (parts b) ∙ mine) in
    let legal_there : IsLegal plan (r.before ++ h.e ∷ r.more) = subst (λ (l : List Entry). IsLegal plan l) (sym r.split)
    legal' in
    let told = ap (λ (x : Entry). x.reply) (entry_determined plan r.before r.more h.e legal_there).1 in
    let shape = history_states plan r.before in
    let pair : pair_no section.rear (Out section.way) + 1 < length plan.boxes =
    out_pair (length plan.boxes) section.rear section.way at in
    record {
      there = r.before ++ h.e ∷ [];
      begins = (r.more, append_assoc r.before (h.e ∷ []) r.more ∙ r.split);
      same = ap (λ (s : LineState). block_in s q w) (state_grows plan r.before h.e)
          ∙ step_back plan (state_of plan r.before) h.e q w (block_in (state_of plan before) q w) told
          (omega (arith, shape.pairs, pair)) h.shows_it;
    })
    (last_shown plan (opening_state plan) before q w is (opening_shape plan)
    (prefix_legal plan before begins.0 (subst (λ (l : List Entry). IsLegal plan l) (sym begins.1) legal)))
  where
    q : ℕ
    q = pair_no section.rear (Out section.way)

    w : Way
    w = section.way

-- a sight that is right in a history is right in any other with the same parts
pub right_in_other : (plan : PlanFields) (log other before : List Entry) (section : Section) (sight : Sight)
    → IsPlan plan → IsSection plan section → IsLegal plan log → IsLegal plan other → SameParts log other
    → IsPrefix before log → IsRightAfter plan before section sight
    → (there : List Entry) × IsPrefix there other × IsRightAfter plan there section sight
right_in_other plan log other before section sight is at legal legal' parts begins right =
    let r = shown_there plan log other before section is at legal legal' parts begins in
    (r.there, r.begins, right_there plan before r.there section sight (sym r.same) right)

-- after the whole of each it shows the same
pub same_whole : (plan : PlanFields) (log other : List Entry) (section : Section) → IsPlan plan
    → IsSection plan section → IsLegal plan log → IsLegal plan other → SameParts log other
    → instrument_after plan log section ≡ instrument_after plan other section
same_whole plan log other section is at legal legal' parts =
    let a = instrument_after plan log section in
    let b = instrument_after plan other section in
    let r = shown_there plan log other log section is at legal legal' parts ([], append-nil log) in
    let s = shown_there plan other log other section is at legal' legal (λ c. sym (parts c)) ([], append-nil other) in
    let up : Follows a b = subst (λ (x : Block). Follows x b) r.same
    (ages_to plan other r.there other section is legal' r.begins ([], append-nil other)) in
    let down : Follows b a = subst (λ (x : Block). Follows x a) s.same
    (ages_to plan log s.there log section is legal s.begins ([], append-nil log)) in
    up.same (omega (arith, up.rises, down.rises))
