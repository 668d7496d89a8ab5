-- A key tells who left a mark, on which word, and which.
use Rattle.std.proofs.Common.{ℕ, ◌+◌, ◌-◌, ◌==◌, ◌≡◌, ◌≢◌, ◌⊎◌, inl, inr, ⊎_elim, true}
use Rattle.std.proofs.Common.{Option, Some, None, refl, sym, ap, subst, ◌∙◌, arith}
use Rattle.std.specs.Prelude.{nat_eq, if◌then◌else◌}
use Rattle.std.proofs.lemmas.Bool.{and_from, and_parts, cases_eq, cond-false, cond-true, eq-eqb, eqb-true, ne_eqb}
use Rattle.block_words.specs.declared.Position.{Position}
use Rattle.block_words.specs.declared.Position.TheVariants.{Normal, LineClear, TrainOnLine}
use Rattle.block_words.specs.declared.Way.{Way}
use Rattle.block_words.specs.declared.Way.TheVariants.{Up, Down}
use Rattle.line_plan.specs.Frames.{same_way}
use Rattle.line_plan.specs.Plans.{PlanFields}
use Rattle.line_law.specs.declared.call.Act.{Act}
use Rattle.line_law.specs.declared.call.Act.TheVariants.{AwaitBlock}
use Rattle.line_law.specs.declared.call.Entry.{Entry}
use Rattle.line_law.specs.declared.call.Reply.{Reply}
use Rattle.line_law.specs.declared.call.Reply.TheVariants.{Rung, BellBusy, Heard, Silent, BellNotYet}
use Rattle.line_law.specs.declared.call.Reply.TheVariants.{Turned, Seen, BlockNotYet, PulledUnder, HeldByInstrument}
use Rattle.line_law.specs.declared.call.Reply.TheVariants.{Entered, SectionFull, Approaching, TrainNotYet, Berthed}
use Rattle.line_law.specs.declared.call.Reply.TheVariants.{PartBerthed, NoTrainAt, Cleared}
use Rattle.line_law.specs.declared.link.Link.{Link}
use Rattle.line_law.specs.declared.link.Link.TheVariants.{Out, In}
use Rattle.line_law.specs.Law.{box_plan_of, link_of}
use Rattle.line_law.specs.Links.{pair_no}
use Rattle.word_laws.specs.Footprint.{Kind, BellWord, BlockWord, PlainLineWord, way_at}
use Rattle.word_laws.specs.TellsWord.{kind_told}
use Rattle.line_journal.specs.Halves.{pair_for}
use Rattle.line_journal.specs.Order.{on_one_word, same_kind}
use Rattle.line_races.specs.Keys.{key_at, kind_no, number_in, other_end, position_no, same_key, way_no}
use Rattle.line_races.specs.Marks.{kept_by, made_by, mark_awaited, mark_ended, mark_left, mark_missed}
use Rattle.line_races.specs.declared.marks.Mark.{Mark}
use Rattle.line_races.specs.declared.marks.Mark.TheVariants.{RungAs, BusyAt, HeardAs, InVainAt, TurnedAs, UsedAt}
use Rattle.line_races.specs.declared.marks.Mark.TheVariants.{EnteredAs, FullUntil, NoneAt, LeftAs, TurnedFrom}

-- ---- the kind of word of a mark

-- the kind of word on which a mark is left
abbrev pub word_kind : Mark → Kind
word_kind (RungAs k) = BellWord
word_kind (BusyAt k) = BellWord
word_kind (HeardAs k) = BellWord
word_kind (InVainAt k) = BellWord
word_kind (TurnedAs v) = BlockWord
word_kind (UsedAt v) = BlockWord
word_kind (EnteredAs k) = PlainLineWord
word_kind (FullUntil k) = PlainLineWord
word_kind (NoneAt k) = PlainLineWord
word_kind (LeftAs k) = PlainLineWord
word_kind (TurnedFrom position) = BlockWord

-- a mark, if there is one, is of this kind of word
abbrev pub IsOfKind : Option Mark → Kind → Type 0
IsOfKind None kind = Unit {0}
IsOfKind (Some mark) kind = kind ≡ word_kind mark

-- the mark that an entry leaves is on a word of the kind of which its reply tells
pub left_kind : (r : Reply) → IsOfKind (mark_left r) (kind_told r)
left_kind (Rung k) = refl
left_kind (BellBusy code k) = refl
left_kind (Heard code k) = refl
left_kind (Silent k) = refl
left_kind (BellNotYet shown k) = refl
left_kind (Turned v) = refl
left_kind (Seen v) = refl
left_kind (BlockNotYet shown v) = refl
left_kind (PulledUnder v) = refl
left_kind (HeldByInstrument way shown spent v) = refl
left_kind (Entered train k) = refl
left_kind (SectionFull k) = refl
left_kind (TrainNotYet j) = refl
left_kind (NoTrainAt j) = refl
left_kind (Berthed train j) = refl
left_kind (Cleared train j) = refl
left_kind r = tt

-- the mark that makes an entry possible is on a word of the kind of which its reply tells
pub maker_kind : (r : Reply) → IsOfKind (made_by r) (kind_told r)
maker_kind (Heard code k) = refl
maker_kind (Rung k) = refl
maker_kind (Seen v) = refl
maker_kind (PulledUnder v) = refl
maker_kind (Approaching train j) = refl
maker_kind (Berthed train j) = refl
maker_kind (PartBerthed train j) = refl
maker_kind (Cleared train j) = refl
maker_kind (Entered train k) = refl
maker_kind r = tt

-- the mark that can't come behind an entry is on a word of the kind of which its reply tells
pub keeper_kind : (r : Reply) → IsOfKind (kept_by r) (kind_told r)
keeper_kind (Rung k) = refl
keeper_kind (Heard code k) = refl
keeper_kind (BellNotYet shown k) = refl
keeper_kind (HeldByInstrument way shown spent v) = refl
keeper_kind (BlockNotYet shown v) = refl
keeper_kind (Turned v) = refl
keeper_kind (Entered train k) = refl
keeper_kind (Berthed train j) = refl
keeper_kind (Cleared train j) = refl
keeper_kind r = tt

-- the mark of a turn that ends a position is on a word of the kind of which its reply tells
pub ended_kind : (position : Position) (r : Reply) → IsOfKind (mark_ended position r) (kind_told r)
ended_kind position (Turned v) = refl
ended_kind position r = tt

awaited_kind : (act : Act) → IsOfKind (mark_awaited act) BlockWord
awaited_kind (AwaitBlock way position) = refl
awaited_kind act = tt

-- the mark of a turn that ends the position which an await saw is on a word of the kind of which its reply tells
pub missed_kind : (act : Act) (r : Reply) → IsOfKind (mark_missed act r) (kind_told r)
missed_kind act (Seen v) = awaited_kind act
missed_kind act r = tt

-- ---- numbers tell marks, positions and ways

one_position : (p q : Position) → position_no p ≡ position_no q → p ≡ q
one_position Normal Normal h = refl
one_position LineClear LineClear h = refl
one_position TrainOnLine TrainOnLine h = refl
one_position p q h = absurd (omega arith)

pub one_mark : (m n : Mark) → kind_no m ≡ kind_no n → number_in m ≡ number_in n → m ≡ n
one_mark (RungAs k) (RungAs n) kind number = ap RungAs number
one_mark (BusyAt k) (BusyAt n) kind number = ap BusyAt number
one_mark (HeardAs k) (HeardAs n) kind number = ap HeardAs number
one_mark (InVainAt k) (InVainAt n) kind number = ap InVainAt number
one_mark (TurnedAs k) (TurnedAs n) kind number = ap TurnedAs number
one_mark (UsedAt k) (UsedAt n) kind number = ap UsedAt number
one_mark (EnteredAs k) (EnteredAs n) kind number = ap EnteredAs number
one_mark (FullUntil k) (FullUntil n) kind number = ap FullUntil number
one_mark (NoneAt k) (NoneAt n) kind number = ap NoneAt number
one_mark (LeftAs k) (LeftAs n) kind number = ap LeftAs number
one_mark (TurnedFrom p) (TurnedFrom q) kind number = ap TurnedFrom (one_position p q number)
one_mark m n kind number = absurd (omega arith)

same_way_no : (v w : Way) → way_no v ≡ way_no w → same_way v w ≡ true
same_way_no Up Up h = refl
same_way_no Down Down h = refl
same_way_no v w h = absurd (omega arith)

one_way_no : (v w : Way) → same_way v w ≡ true → way_no v ≡ way_no w
one_way_no Up Up h = refl
one_way_no Down Down h = refl
one_way_no Up Down h = cc
one_way_no Down Up h = cc

same_shared : (mark : Mark) → same_kind (word_kind mark) (word_kind mark) ≡ true
same_shared (RungAs k) = refl
same_shared (BusyAt k) = refl
same_shared (HeardAs k) = refl
same_shared (InVainAt k) = refl
same_shared (TurnedAs v) = refl
same_shared (UsedAt v) = refl
same_shared (EnteredAs k) = refl
same_shared (FullUntil k) = refl
same_shared (NoneAt k) = refl
same_shared (LeftAs k) = refl
same_shared (TurnedFrom position) = refl

-- ---- the two ends of a word

below : (b : ℕ) → (b - 1 ≡ b) ⊎ ((b - 1) + 1 ≡ b)
below b = ⊎_elim (λ (z : b ≡ 0). inl (omega arith)) (λ (nz : b ≢ 0). inr (omega arith)) (cases_eq b 0)

choice_at : (b : ℕ) (link : Link) → (pair_no b link ≡ b) ⊎ (pair_no b link + 1 ≡ b)
choice_at b (Out Up) = below b
choice_at b (Out Down) = inl refl
choice_at b (In Up) = inl refl
choice_at b (In Down) = below b

-- the pair of an entry's word is that above its box or that below it
pub pair_choice : (plan : PlanFields) (e : Entry) → (pair_for plan e ≡ e.box_no) ⊎ (pair_for plan e + 1 ≡ e.box_no)
pair_choice plan e = choice_at e.box_no (link_of (box_plan_of plan e.box_no) e.call.act)

-- the box of a pair that isn't box c is the other one
other_of : (b c p : ℕ) → (p ≡ b) ⊎ (p + 1 ≡ b) → (p ≡ c) ⊎ (p + 1 ≡ c) → b ≢ c → b ≡ (if p == c then c + 1 else p)
other_of b c p here there ne =
    ⊎_elim (λ (same : p ≡ c).
    ⊎_elim (λ (h : p ≡ b). absurd (ne (sym h ∙ same)))
    (λ (h : p + 1 ≡ b). let at : b ≡ c + 1 = omega arith in
    at ∙ sym (cond-true (p == c) (c + 1) p (eq-eqb p c same))) here)
    (λ (differ : p ≢ c).
    ⊎_elim (λ (h : p ≡ b). sym h ∙ sym (cond-false (p == c) (c + 1) p (ne_eqb p c differ)))
    (λ (h : p + 1 ≡ b). ⊎_elim (λ (h2 : p ≡ c). absurd (differ h2))
    (λ (h2 : p + 1 ≡ c). absurd (ne (sym h ∙ h2))) there) here)
    (cases_eq p c)

-- the other box isn't the box itself
not_one : (b c p : ℕ) → b ≡ (if p == c then c + 1 else p) → b ≢ c
not_one b c p at same =
    ⊎_elim (λ (h : p ≡ c). let up : b ≡ c + 1 = at ∙ cond-true (p == c) (c + 1) p (eq-eqb p c h) in omega arith)
    (λ (differ : p ≢ c). differ (sym (at ∙ cond-false (p == c) (c + 1) p (ne_eqb p c differ)) ∙ same)) (cases_eq p c)

-- ---- keys

-- the words of two entries are one line's: of one pair and one way
one_line : (plan : PlanFields) (e x : Entry) → on_one_word plan e x ≡ true
    → (pair_for plan e ≡ pair_for plan x)
    × (way_no (way_at plan e.box_no e.call) ≡ way_no (way_at plan x.box_no x.call))
one_line plan e x word =
    let line = (and_parts (same_kind (kind_told e.reply) (kind_told x.reply)) _ word).1 in
    let parts = and_parts (pair_for plan e == pair_for plan x) _ line in
    (eqb-true (pair_for plan e) (pair_for plan x) parts.0, one_way_no _ _ parts.1)

-- who is at the other end of the word of an entry
pub at_other_end : (plan : PlanFields) (e x : Entry) → e.box_no ≢ x.box_no → on_one_word plan e x ≡ true
    → e.box_no ≡ other_end plan x
at_other_end plan e x apart word =
    let one = (one_line plan e x word).0 in
    other_of e.box_no x.box_no (pair_for plan x)
    (subst (λ (p : ℕ). (p ≡ e.box_no) ⊎ (p + 1 ≡ e.box_no)) one (pair_choice plan e))
    (pair_choice plan x) apart

-- entries of two boxes on one word have one key for a mark: that of the first, and that at the other end of the second
pub one_key : (plan : PlanFields) (e x : Entry) (mark : Mark) → e.box_no ≢ x.box_no → on_one_word plan e x ≡ true
    → same_key (key_at plan e.box_no e mark) (key_at plan (other_end plan x) x mark) ≡ true
one_key plan e x mark apart word =
    let line = one_line plan e x word in
    let box = at_other_end plan e x apart word in
    and_from _ _ (and_from _ _ (and_from _ _ (and_from _ _ (eq-eqb _ _ box) (eq-eqb _ _ line.0))
    (eq-eqb _ _ line.1)) (eq-eqb (kind_no mark) (kind_no mark) refl)) (eq-eqb (number_in mark) (number_in mark) refl)

-- what one key for two marks tells of their entries
pub record AreOfKey (plan : PlanFields) (e x : Entry) (mark sought : Mark) : Type 0 where
  pub apart : e.box_no ≢ x.box_no
  pub word : on_one_word plan e x ≡ true
  pub same : mark ≡ sought

-- where the key of a mark that one entry leaves is that of a mark sought from the other end of another's word, the
-- entries are of two boxes and on one word, and the marks are one
pub of_key : (plan : PlanFields) (e x : Entry) (mark sought : Mark) → kind_told e.reply ≡ word_kind mark
    → kind_told x.reply ≡ word_kind sought
    → same_key (key_at plan e.box_no e mark) (key_at plan (other_end plan x) x sought) ≡ true
    → AreOfKey plan e x mark sought
of_key plan e x mark sought kind other one =
    let p4 = and_parts _ (nat_eq (number_in mark) (number_in sought)) one in
    let p3 = and_parts _ (nat_eq (kind_no mark) (kind_no sought)) p4.0 in
    let p2 = and_parts _ (nat_eq (way_no (way_at plan e.box_no e.call)) (way_no (way_at plan x.box_no x.call))) p3.0 in
    let p1 = and_parts (nat_eq e.box_no (other_end plan x)) (nat_eq (pair_for plan e) (pair_for plan x)) p2.0 in
    let same : mark ≡ sought = one_mark mark sought (eqb-true _ _ p3.1) (eqb-true _ _ p4.1) in
    let kinds : same_kind (kind_told e.reply) (kind_told x.reply) ≡ true =
    ap (λ (k : Kind). same_kind k (kind_told x.reply)) (kind ∙ ap word_kind same)
    ∙ ap (λ (k : Kind). same_kind (word_kind sought) k) other ∙ same_shared sought in
    record {
      apart = not_one e.box_no x.box_no (pair_for plan x) (eqb-true _ _ p1.0);
      word = and_from _ _ kinds (and_from _ _ p1.1 (same_way_no _ _ (eqb-true _ _ p2.1)));
      same = same;
    }
