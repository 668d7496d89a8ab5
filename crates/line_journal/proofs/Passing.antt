-- Entries that nothing keeps back.
use Rattle.std.proofs.Common.{ℕ, ◌+◌, ◌==◌, ◌&&◌, ◌≡◌, ◌≢◌, ◌<◌, ◌≤◌, ◌⊎◌, inl, inr, ⊎_elim, List, [], Option}
use Rattle.std.proofs.Common.{Some, None, Bool, true, false, All, length, refl, sym, ap, subst, ◌∙◌, arith}
use Rattle.std.specs.Prelude.{nat_lt, if◌then◌else◌}
use Rattle.std.proofs.lemmas.Bool.{ltb-true, ltb-false}
use Rattle.std.proofs.lemmas.Bool.Decides.{eqb_tells}
use Rattle.std.proofs.lemmas.List.{get_or_past}
use Rattle.std.proofs.lemmas.List.Elements.{All-weaker}
use Rattle.line_plan.specs.Plans.{PlanFields}
use Rattle.line_law.specs.declared.call.Entry.{Entry}
use Rattle.line_law.specs.declared.call.Reply.{Reply}
use Rattle.line_law.specs.declared.call.Reply.TheVariants.{Rung, Heard, Turned, Entered, Berthed, Cleared}
use Rattle.line_law.specs.declared.call.Reply.TheVariants.{BellBusy, Silent, BellNotYet, PulledUnder}
use Rattle.line_law.specs.declared.call.Reply.TheVariants.{HeldByInstrument, Seen, BlockNotYet, SectionFull}
use Rattle.line_law.specs.declared.call.Reply.TheVariants.{NoTrainAt, TrainNotYet}
use Rattle.line_law.proofs.Found.{found_All, found_test}
use Rattle.word_laws.specs.Footprint.{way_at}
use Rattle.line_journal.specs.declared.keeper.Keeper.{Keeper}
use Rattle.line_journal.specs.Halves.{pair_for}
use Rattle.word_laws.specs.TellsWord.{kind_told}
use Rattle.line_journal.specs.FitTests.{is_word}
use Rattle.line_journal.specs.Keepers.{IsFirst, IsPassed, LetsPass, first_keeper, keeper_count, keeper_no}
use Rattle.line_journal.specs.Keepers.{keeper_slot, kept_at, kept_by, kept_slot, other_box}
use Rattle.line_journal.specs.Lists.{AreOfBoxes, IsOfBox}
use Rattle.line_journal.specs.Order.{keeps_back, kept_back, list_at, on_one_word}
use Rattle.line_journal.proofs.Deciders.{slot_parts}
use Rattle.line_journal.proofs.Nearby.{apart_free, pair_near}

unkept : (r q : Reply) → kept_by r ≡ 0 → kept_back r q ≡ false
unkept (Rung k) q none = absurd cc
unkept (Heard code k) q none = absurd cc
unkept (Turned v) q none = absurd cc
unkept (Entered train k) q none = absurd cc
unkept (Berthed train j) q none = absurd cc
unkept (Cleared train j) q none = absurd cc
unkept r q none = refl

and_false : (b : Bool) → b && false ≡ false
and_false true = refl
and_false false = refl

never_kept : (plan : PlanFields) (e x : Entry) → kept_by e.reply ≡ 0 → keeps_back plan e x ≡ false
never_kept plan e x none =
    ap (λ (b : Bool). on_one_word plan e x && b) (unkept e.reply x.reply none) ∙ and_false (on_one_word plan e x)

passes : (plan : PlanFields) (e : Entry) (found : Option Entry) → ((x : Entry) → keeps_back plan e x ≡ false)
    → LetsPass plan e found
passes plan e None none = tt
passes plan e (Some x) none = none x

-- an entry whose reply none keeps back is let pass
pub unkept_passes : (plan : PlanFields) (lists : List (List Entry)) (b : ℕ) (e : Entry) → kept_by e.reply ≡ 0
    → IsPassed plan lists b e
unkept_passes plan lists b e none =
    λ c near. passes plan e (first_keeper plan e (list_at lists c)) (λ x. never_kept plan e x none)

-- where an entry is of the kind that may keep a reply back, its count tells whether it does
by_count : (r q : Reply) → kept_by r ≡ keeper_no q → kept_back r q ≡ kept_at r (keeper_count q)
by_count (Rung k) (Silent n) e = refl
by_count (Rung k) (BellNotYet shown n) e = refl
by_count (Rung k) q e = absurd (cc e)
by_count (Heard code k) (BellBusy held n) e = refl
by_count (Heard code k) q e = absurd (cc e)
by_count (Turned v) (PulledUnder n) e = refl
by_count (Turned v) (HeldByInstrument way shown spent n) e = refl
by_count (Turned v) (Seen n) e = refl
by_count (Turned v) (BlockNotYet shown n) e = refl
by_count (Turned v) q e = absurd (cc e)
by_count (Entered train k) (NoTrainAt j) e = refl
by_count (Entered train k) (TrainNotYet j) e = refl
by_count (Entered train k) q e = absurd (cc e)
by_count (Berthed train j) (SectionFull k) e = refl
by_count (Berthed train j) q e = absurd (cc e)
by_count (Cleared train j) (SectionFull k) e = refl
by_count (Cleared train j) q e = absurd (cc e)
by_count r q e = refl

same_slot : (m n : ℕ) → (m == n) ≡ true → m ≡ n
same_slot m n is =
    ⊎_elim (λ same. same.1) (λ other. let not = other.0 in absurd (cc (is, not))) (eqb_tells m n)

-- so where the count of the first that may keep an entry back doesn't, the entry is let pass
pub passes_count : {plan : PlanFields} {list : List Entry} {keeper : Keeper} (e : Entry)
    → IsFirst plan (kept_slot plan e) list keeper → kept_at e.reply keeper.count ≡ false
    → LetsPass plan e (first_keeper plan e list)
passes_count {plan} {list} {keeper} e first free =
    let x : Entry = first.entry in
    let own : keeper_slot plan x ≡ kept_slot plan e =
    same_slot (keeper_slot plan x) (kept_slot plan e)
    (found_test (λ y. keeper_slot plan y == kept_slot plan e) list x first.found) in
    let kinds : keeper_no x.reply ≡ kept_by e.reply =
    (slot_parts (keeper_no x.reply) (kept_by e.reply) (way_at plan x.box_no x.call) (way_at plan e.box_no e.call)
    own).0 in
    let none : kept_back e.reply x.reply ≡ false =
    by_count e.reply x.reply (sym kinds) ∙ ap (λ (n : ℕ). kept_at e.reply n) first.count ∙ free in
    subst (λ (o : Option Entry). LetsPass plan e o) (sym first.found)
    (ap (λ (b : Bool). on_one_word plan e x && b) none ∙ and_false (on_one_word plan e x))

-- ---- the neighbour that shares a word

other_is : (b p : ℕ) → ((other_box b p ≡ p) × (p < b)) ⊎ ((other_box b p ≡ b + 1) × (b ≤ p))
other_is b p = by (nat_lt p b) refl where
  by : (t : Bool) → nat_lt p b ≡ t
      → (((if t then p else b + 1) ≡ p) × (p < b)) ⊎ (((if t then p else b + 1) ≡ b + 1) × (b ≤ p))
  by true e = inl (refl, ltb-true p b e)
  by false e = inr (refl, ltb-false p b e)

-- an entry of another box than the other one of a pair isn't on it
off_pair : (b c p q other : ℕ) → b ≤ p + 1 → p ≤ b → c ≤ q + 1 → q ≤ c → other ≡ other_box b p
    → (c + 1 ≡ b) ⊎ (c ≡ b + 1) → c ≢ other → p ≡ q → ⊥
off_pair b c p q other low high low_c high_c is near ne same = by (other_is b p) near where
  by : ((other_box b p ≡ p) × (p < b)) ⊎ ((other_box b p ≡ b + 1) × (b ≤ p)) → (c + 1 ≡ b) ⊎ (c ≡ b + 1) → ⊥
  by (inl at) (inl under) = let is_p : other ≡ p = is ∙ at.0 in ne (omega (arith, is_p, at.1, low, under))
  by (inl at) (inr over) = let less = at.1 in omega (arith, less, over, low_c, same)
  by (inr at) (inl under) = let above = at.1 in omega (arith, above, under, high_c, same)
  by (inr at) (inr over) = ne (over ∙ sym (is ∙ at.0))

others_pass : (plan : PlanFields) (e : Entry) (c other : ℕ) (list : List Entry) (found : Option Entry)
    → first_keeper plan e list ≡ found → All (λ x. x.box_no ≡ c) list → other ≡ other_box e.box_no (pair_for plan e)
    → (c + 1 ≡ e.box_no) ⊎ (c ≡ e.box_no + 1) → c ≢ other → LetsPass plan e found
others_pass plan e c other list None at own is near ne = tt
others_pass plan e c other list (Some x) at own is near ne =
    let of_c : x.box_no ≡ c =
    found_All (λ x. x.box_no ≡ c) (λ x. keeper_slot plan x == kept_slot plan e) list x at own in
    let mine = pair_near plan e in
    let theirs = pair_near plan x in
    apart_free plan e x (off_pair e.box_no c (pair_for plan e) (pair_for plan x) other mine.1 mine.0
    (subst (λ (k : ℕ). k ≤ pair_for plan x + 1) of_c theirs.1) (subst (λ (k : ℕ). pair_for plan x ≤ k) of_c theirs.0)
    is near ne)

-- where the neighbour on its word lets an entry pass, both do
pub other_passes : (plan : PlanFields) (lists : List (List Entry)) (b other : ℕ) (e : Entry) → AreOfBoxes plan lists
    → e.box_no ≡ b → other ≡ other_box e.box_no (pair_for plan e)
    → LetsPass plan e (first_keeper plan e (list_at lists other)) → IsPassed plan lists b e
other_passes plan lists b other e are own is passes =
    λ c near. ⊎_elim
    (λ mine. subst (λ (k : ℕ). LetsPass plan e (first_keeper plan e (list_at lists k))) (sym mine.1) passes)
    (λ ne. others_pass plan e c other (list_at lists c) _ refl
    (All-weaker (IsOfBox plan c) (λ x. x.box_no ≡ c) (λ x h. h.own) (list_at lists c) (are c)) is
    (subst (λ (k : ℕ). (c + 1 ≡ k) ⊎ (c ≡ k + 1)) (sym own) near) ne.1)
    (eqb_tells c other)

-- the other box of the pair is a neighbour
other_near : (b p other : ℕ) → b ≤ p + 1 → other ≡ other_box b p → (other + 1 ≡ b) ⊎ (other ≡ b + 1)
other_near b p other low is = by (other_is b p) where
  by : ((other_box b p ≡ p) × (p < b)) ⊎ ((other_box b p ≡ b + 1) × (b ≤ p)) → (other + 1 ≡ b) ⊎ (other ≡ b + 1)
  by (inl at) = let is_p : other ≡ p = is ∙ at.0 in let less = at.1 in inl (omega (arith, is_p, less, low))
  by (inr at) = inr (is ∙ at.0)

-- the first keeper of the other box of a pair lets an entry pass
pub passes_other : (plan : PlanFields) (lists : List (List Entry)) (b other : ℕ) (e : Entry) → e.box_no ≡ b
    → other ≡ other_box e.box_no (pair_for plan e) → IsPassed plan lists b e
    → LetsPass plan e (first_keeper plan e (list_at lists other))
passes_other plan lists b other e own is passed =
    passed other (subst (λ (k : ℕ). (other + 1 ≡ k) ⊎ (other ≡ k + 1)) own
    (other_near e.box_no (pair_for plan e) other (pair_near plan e).1 is))

-- behind the last box there is none
pub none_passes : (plan : PlanFields) (lists : List (List Entry)) (other : ℕ) (e : Entry) → length lists ≤ other
    → LetsPass plan e (first_keeper plan e (list_at lists other))
none_passes plan lists other e past =
    subst (λ (l : List Entry). LetsPass plan e (first_keeper plan e l)) (sym (get_or_past lists other [] past)) tt

-- what was decided on its box's tally is kept back by none
pub unkept_tally : (r : Reply) → is_word (kind_told r) ≡ false → kept_by r ≡ 0
unkept_tally (Heard code k) tally = absurd (cc tally)
unkept_tally (Rung k) tally = absurd (cc tally)
unkept_tally (Turned v) tally = absurd (cc tally)
unkept_tally (Berthed train j) tally = absurd (cc tally)
unkept_tally (Cleared train j) tally = absurd (cc tally)
unkept_tally (Entered train k) tally = absurd (cc tally)
unkept_tally r tally = refl
