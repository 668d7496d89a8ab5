-- Where no lower box is open, the entries of a box that were decided on its own tally are placed one after another.
use Rattle.std.proofs.Common.{ℕ, zero, suc, ◌+◌, ◌++◌, ◌≡◌, ◌<◌, ◌≤◌, List, [], ◌∷◌, Some, Bool, false, drop, length}
use Rattle.std.proofs.Common.{slice_index_or, slice_set, take, refl, sym, ap, subst, ◌∙◌, arith, eqb, ◌⊎◌, inl, inr}
use Rattle.std.proofs.Common.{true, ◌≢◌, replicate}
use Rattle.std.specs.Prelude.{if◌then◌else◌}
use Rattle.std.proofs.lemmas.List.{append_assoc, append-nil, drop_more, get_or_default, get_or-set_same, length-set}
use Rattle.std.proofs.lemmas.List.{length-drop, set-get_or, set-set}
use Rattle.std.proofs.lemmas.List.{take_more}
use Rattle.std.proofs.lemmas.Bool.Decides.{eqb_tells}
use Rattle.line_plan.specs.Plans.{IsPlan, PlanFields}
use Rattle.block_words.specs.declared.Way.TheVariants.{Up}
use Rattle.line_law.specs.declared.call.Act.TheVariants.{Wind}
use Rattle.line_law.specs.declared.call.Entry.{Entry}
use Rattle.line_law.specs.declared.call.Reply.TheVariants.{Put}
use Rattle.line_law.specs.declared.state.PairState.{PairState}
use Rattle.word_laws.specs.TellsWord.{kind_told}
use Rattle.line_journal.specs.declared.keeper.Keeper.{Keeper}
use Rattle.line_journal.specs.FitTests.{is_word}
use Rattle.line_journal.specs.Halves.{made, pair_for}
use Rattle.line_journal.specs.Keepers.{IsOpen, opens_from}
use Rattle.line_journal.specs.Keepers.{pair_woken, woken}
use Rattle.line_journal.specs.Lists.{count_left}
use Rattle.line_journal.specs.Merging.{AreTallies, IsKept, IsNextOnWord, IsOnWordAt, KeepsMerging, Merges}
use Rattle.line_journal.specs.Order.{list_at, placed, placed_some}
use Rattle.line_journal.specs.Walks.{AreTalliesPlaced, IsWalk, Leaves, left_behind, walked}
use Rattle.line_journal.proofs.Answering.{below_as}
use Rattle.line_journal.proofs.Deciding.{fits_if, tally_fits, tally_made}
use Rattle.line_journal.proofs.KeepersIn.{keepers_next}
use Rattle.line_journal.proofs.Lefts.{drop_next}
use Rattle.line_journal.proofs.Looping.{fewer, grows, of_boxes, own_box}
use Rattle.line_journal.proofs.Nearby.{asleep_as, none_opens, none_wakes}
use Rattle.line_journal.proofs.Opening.{lowest_set}
use Rattle.line_journal.proofs.Orders.{in_range}
use Rattle.line_journal.proofs.Passing.{unkept_passes, unkept_tally}
use Rattle.line_journal.proofs.Walks.{behind_more, same_left, same_taken, same_walk, walk_more, walked_more}

-- such an entry is open
tally_open : (plan : PlanFields) (pairs : List PairState) (lists : List (List Entry)) (b : ℕ) (e : Entry)
    → list_at lists b ≡ e ∷ drop 1 (list_at lists b) → is_word (kind_told e.reply) ≡ false → IsOpen plan pairs lists b
tally_open plan pairs lists b e next tally =
    record {
      entry = e;
      rest = drop 1 (list_at lists b);
      next = next;
      fits = fits_if plan pairs e (tally_fits plan pairs e tally);
      passed = unkept_passes plan lists b e (unkept_tally e.reply tally);
    }

tally_woken : (plan : PlanFields) (e : Entry) (awake : List Bool) → is_word (kind_told e.reply) ≡ false
    → woken plan e awake ≡ awake
tally_woken plan e awake tally =
    ap (λ (w : Bool). if w then pair_woken (pair_for plan e) awake else awake) tally

tally_from : (plan : PlanFields) (e : Entry) → is_word (kind_told e.reply) ≡ false → opens_from plan e ≡ e.box_no
tally_from plan e tally = ap (λ (w : Bool). if w then pair_for plan e else e.box_no) tally

-- all is kept as it is placed
kept_tally : (plan : PlanFields) (all : List (List Entry)) (done : List Entry) (pairs : List PairState)
    (lists : List (List Entry)) (b : ℕ) (awake : List Bool) (keepers : List (List Keeper)) (e : Entry) → IsPlan plan
    → IsKept plan all done pairs lists b awake keepers → list_at lists b ≡ e ∷ drop 1 (list_at lists b)
    → is_word (kind_told e.reply) ≡ false → IsKept plan all (done ++ e ∷ []) pairs (placed lists b) b awake keepers
kept_tally plan all done pairs lists b awake keepers e is kept next tally =
    let opens = tally_open plan pairs lists b e next tally in
    let are = of_boxes plan all done pairs lists is kept.merges in
    let own = (own_box plan lists b e _ are next).own in
    let same : made plan pairs e ≡ pairs = tally_made plan pairs e tally in
    let lowest = lowest_set plan all done pairs lists (Some b) is kept.merges (opens, kept.below) in
    record {
      merges =
          subst (λ (ps : List PairState). Merges plan all (done ++ e ∷ []) ps (placed lists b)) same
          (grows plan all done pairs lists b e is kept.merges lowest next);
      below =
          below_as plan (made plan pairs e) pairs (placed lists b) (placed lists b) (opens_from plan e) b (sym same)
          refl (sym (tally_from plan e tally ∙ own)) (none_opens plan pairs lists b e _ are next own kept.below);
      asleep =
          asleep_as plan (made plan pairs e) pairs (placed lists b) (placed lists b) (woken plan e awake) awake
          (sym same) refl (sym (tally_woken plan e awake tally))
          (none_wakes plan pairs lists b e _ awake are next opens kept.asleep);
      are_keepers = keepers_next plan lists keepers b kept.are_keepers (in_range lists b e _ next);
    }

pub keeps_all : (b : ℕ) (done : List Entry) (lists : List (List Entry)) → KeepsMerging b done lists done lists
keeps_all b done lists =
    record { count = refl; fewer = omega arith; keeps = λ plan all pairs awake keepers is kept. kept }

pub keeps_more : (b : ℕ) (done : List Entry) (lists : List (List Entry)) (more further : List Entry)
    (left after : List (List Entry)) (e : Entry) → KeepsMerging b done lists more left
    → list_at left b ≡ e ∷ drop 1 (list_at left b) → is_word (kind_told e.reply) ≡ false → further ≡ more ++ e ∷ []
    → after ≡ placed left b → KeepsMerging b done lists further after
keeps_more b done lists more further left after e keeps next tally f a =
    subst (λ (es : List Entry). KeepsMerging b done lists es after) (sym f)
    (subst (λ (ls : List (List Entry)). KeepsMerging b done lists (more ++ e ∷ []) ls) (sym a) all) where
      less : count_left (placed left b) < count_left left
      less = fewer left b e _ next

      all : KeepsMerging b done lists (more ++ e ∷ []) (placed left b)
      all = record {
        count = length-set left b _ ∙ keeps.count;
        fewer = omega (arith, less, keeps.fewer);
        keeps =
            λ plan all pairs awake keepers is kept. kept_tally plan all more pairs left b awake keepers e is
            (keeps.keeps plan all pairs awake keepers is kept) next tally;
      }

-- one more was decided so
pub tally_more : (es : List Entry) (n : ℕ) (d : Entry) → n < length es
    → is_word (kind_told (slice_index_or es n d).reply) ≡ false → AreTallies es n → AreTallies es (n + 1)
tally_more es n d lt here before k e less = go (eqb_tells k n) where
  go : ((eqb k n ≡ true) × (k ≡ n)) ⊎ ((eqb k n ≡ false) × (k ≢ n))
      → is_word (kind_told (slice_index_or es k e).reply) ≡ false
  go (inr p) = before k e (omega (arith, less, p.1))
  go (inl p) =
      ap (λ (i : ℕ). is_word (kind_told (slice_index_or es i e).reply)) p.1
      ∙ ap (λ (x : Entry). is_word (kind_told x.reply)) (get_or_default es n e d lt) ∙ here

-- the entry at a place of a list that is left from there on
pub next_at : (left : List (List Entry)) (b i : ℕ) (list : List Entry) (d : Entry) → i < length list
    → list_at left b ≡ drop i list → list_at left b ≡ slice_index_or list i d ∷ drop 1 (list_at left b)
next_at left b i list d within rest =
    let at : drop i list ≡ slice_index_or list i d ∷ drop (i + 1) list = drop_more list i d within in
    let later : drop 1 (list_at left b) ≡ drop (i + 1) list =
    ap (λ (l : List Entry). drop 1 l) (rest ∙ at) in
    rest ∙ at ∙ ap (λ (l : List Entry). slice_index_or list i d ∷ l) (sym later)

-- once they are placed, the next entry of the box was decided on a word
pub word_next : (lists : List (List Entry)) {left : List (List Entry)} {b n : ℕ} {entries : List Entry}
    → b < length lists → entries ≡ list_at lists b → IsOnWordAt entries n → left ≡ placed_some lists b n
    → IsNextOnWord left b
word_next lists {left} {b} {n} {entries} within own word rest =
    λ e later next.
    let here : drop n entries ≡ e ∷ later =
    ap (λ (l : List Entry). drop n l) own ∙ sym (get_or-set_same lists b (drop n (list_at lists b)) [] within)
    ∙ ap (λ (ls : List (List Entry)). list_at ls b) (sym rest) ∙ next in
    let count = length-drop n entries in
    let some : length (drop n entries) ≡ length (e ∷ later) = ap (λ (l : List Entry). length l) here in
    let less : n < length entries = omega (arith, count, some) in
    let first : slice_index_or entries n e ≡ e =
    ap (λ (l : List Entry). slice_index_or l 0 e) (sym (drop_more entries n e less) ∙ here) in
    ap (λ (x : Entry). is_word (kind_told x.reply)) (sym first) ∙ word e less

-- the next entries of a box that were decided on its own tally, so many
pub keeps_some : (b : ℕ) (done : List Entry) (lists : List (List Entry)) (n : ℕ) → b < length lists
    → n ≤ length (list_at lists b) → AreTallies (list_at lists b) n
    → KeepsMerging b done lists (done ++ take n (list_at lists b)) (placed_some lists b n)
keeps_some b done lists zero lt le tallies =
    subst (λ (es : List Entry). KeepsMerging b done lists es (placed_some lists b 0)) (sym (append-nil done))
    (subst (λ (ls : List (List Entry)). KeepsMerging b done lists done ls) (sym (set-get_or lists b []))
    (keeps_all b done lists))
keeps_some b done lists (suc n) lt le tallies =
    let list : List Entry = list_at lists b in
    let before : List (List Entry) = placed_some lists b n in
    let at : list_at before b ≡ drop n list = get_or-set_same lists b (drop n list) [] lt in
    let next = next_at before b n list none (omega (arith, le)) at in
    let count : n + 1 ≡ suc n = omega arith in
    let same : placed_some lists b (suc n) ≡ placed before b =
    ap (λ (k : ℕ). slice_set lists b (drop k list)) (sym count)
    ∙ ap (λ (l : List Entry). slice_set lists b l) (drop_next n list ∙ ap (λ (l : List Entry). drop 1 l) (sym at))
    ∙ sym (set-set lists b (drop n list) (drop 1 (list_at before b))) in
    let more : done ++ take (suc n) list ≡ (done ++ take n list) ++ slice_index_or list n none ∷ [] =
    ap (λ (k : ℕ). done ++ take k list) (sym count)
    ∙ ap (λ (es : List Entry). done ++ es) (take_more list n none (omega (arith, le)))
    ∙ sym (append_assoc done (take n list) (slice_index_or list n none ∷ [])) in
    keeps_more b done lists (done ++ take n list) (done ++ take (suc n) list) before (placed_some lists b (suc n))
    (slice_index_or list n none)
    (keeps_some b done lists n lt (omega (arith, le)) (λ k d less. tallies k d (omega (arith, less)))) next
    (tallies n none (omega arith)) more same where
      none : Entry
      none = record { box_no = 0; call = record { moment = 0; act = Wind Up }; reply = Put }

-- ---- as the loop of the merge has them

-- so many of a box, as they are told
pub tallies_kept : (all lists : List (List Entry)) (boxes more : List ℕ) (b : ℕ) (left : List (List Entry))
    → Leaves all boxes lists → b < length lists → AreTalliesPlaced b boxes lists more left
    → KeepsMerging b (walked all boxes) lists (walked all more) left
tallies_kept all lists boxes more b left leaves lt put =
    let next : walked (left_behind all boxes) (replicate put.many b) ≡ take put.many (list_at lists b) =
    ap (λ (ls : List (List Entry)). walked ls (replicate put.many b)) (sym leaves.behind)
    ∙ same_taken lists b put.many lt put.within in
    let done : walked all more ≡ walked all boxes ++ take put.many (list_at lists b) =
    ap (λ (bs : List ℕ). walked all bs) put.told ∙ walked_more all boxes (replicate put.many b)
    ∙ ap (λ (es : List Entry). walked all boxes ++ es) next in
    subst (λ (ls : List (List Entry)). KeepsMerging b (walked all boxes) lists (walked all more) ls) (sym put.rest)
    (subst (λ (es : List Entry). KeepsMerging b (walked all boxes) lists es (placed_some lists b put.many)) (sym done)
    (keeps_some b (walked all boxes) lists put.many lt put.within put.tallies))

-- and the walk has come so far
pub tallies_leave : {all lists : List (List Entry)} {boxes more : List ℕ} {b : ℕ} {left : List (List Entry)}
    → Leaves all boxes lists → b < length lists → AreTalliesPlaced b boxes lists more left → Leaves all more left
tallies_leave {all} {lists} {boxes} {more} {b} {left} leaves lt put =
    let walk : IsWalk (left_behind all boxes) (replicate put.many b) =
    subst (λ (ls : List (List Entry)). IsWalk ls (replicate put.many b)) leaves.behind
    (same_walk lists b put.many lt put.within) in
    record {
      walk = subst (λ (bs : List ℕ). IsWalk all bs) (sym put.told)
          (walk_more all boxes (replicate put.many b) leaves.walk walk);
      behind = put.rest ∙ sym (same_left lists b put.many lt)
          ∙ ap (λ (ls : List (List Entry)). left_behind ls (replicate put.many b)) leaves.behind
          ∙ sym (behind_more all boxes (replicate put.many b))
          ∙ ap (λ (bs : List ℕ). left_behind all bs) (sym put.told);
    }

-- one entry more
pub next_leaves : {all lists : List (List Entry)} {boxes more : List ℕ} (b : ℕ) {e : Entry}
    {left : List (List Entry)} → Leaves all boxes lists → list_at lists b ≡ e ∷ drop 1 (list_at lists b)
    → more ≡ boxes ++ b ∷ [] → left ≡ placed lists b → Leaves all more left
next_leaves {all} {lists} {boxes} {more} b {e} {left} leaves next told rest =
    let some : 0 < length (list_at lists b) = subst (λ (l : List Entry). 0 < length l) (sym next) (omega arith) in
    record {
      walk = subst (λ (bs : List ℕ). IsWalk all bs) (sym told)
          (walk_more all boxes (b ∷ []) leaves.walk
          (subst (λ (ls : List (List Entry)). IsWalk ls (b ∷ [])) leaves.behind (some, tt)));
      behind = rest ∙ ap (λ (ls : List (List Entry)). placed ls b) leaves.behind
          ∙ sym (behind_more all boxes (b ∷ [])) ∙ ap (λ (bs : List ℕ). left_behind all bs) (sym told);
    }

-- the walk has come one entry farther
pub next_walked : {all lists : List (List Entry)} {boxes more : List ℕ} (b : ℕ) {e : Entry} → Leaves all boxes lists
    → list_at lists b ≡ e ∷ drop 1 (list_at lists b) → more ≡ boxes ++ b ∷ []
    → walked all more ≡ walked all boxes ++ e ∷ []
next_walked {all} {lists} {boxes} {more} b {e} leaves next told =
    ap (λ (bs : List ℕ). walked all bs) told ∙ walked_more all boxes (b ∷ [])
    ∙ ap (λ (ls : List (List Entry)). walked all boxes ++ walked ls (b ∷ [])) (sym leaves.behind)
    ∙ ap (λ (l : List Entry). walked all boxes ++ (take 1 l ++ [])) next
