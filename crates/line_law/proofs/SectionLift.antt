-- From a decision to a fact of a section, for any fact.
use Rattle.std.proofs.Common.{ℕ, ◌≡◌, ◌≢◌, ◌<◌, ◌⊎◌, inl, inr, true, false, List, length, refl, sym, ap, ◌∙◌, subst}
use Rattle.std.proofs.Common.{eqb}
use Rattle.std.proofs.lemmas.Bool.Decides.{eqb_tells}
use Rattle.std.proofs.lemmas.List.{get_or-set_same, get_or-set_other}
use Rattle.block_words.specs.Ways.{opposite}
use Rattle.block_words.specs.declared.Way.{Way}
use Rattle.line_plan.specs.Sections.{advance_of}
use Rattle.line_plan.specs.declared.section.Section.{Section}
use Rattle.line_law.specs.declared.link.Link.TheVariants.{Out}
use Rattle.line_law.specs.declared.state.Bell.{Bell}
use Rattle.line_law.specs.declared.state.Block.{Block}
use Rattle.line_law.specs.declared.state.BoxState.{BoxState}
use Rattle.line_law.specs.declared.state.PairState.{PairState}
use Rattle.line_law.specs.declared.state.Passage.{Passage}
use Rattle.line_law.specs.Decisions.{Told, Decision, Here, OnBell, OnBlock, OnPlainLine, on_pair}
use Rattle.line_law.specs.Law.{done_at}
use Rattle.line_law.specs.Lines.{pair_in}
use Rattle.line_law.specs.Links.{pair_no}
use Rattle.line_law.specs.SectionFacts.{AfterElsewhere, AfterOwn, Fact, Holds, IsLocal}
use Rattle.line_law.specs.States.{LineState, box_at, no_state, opening_pair, pair_at}
use Rattle.line_law.specs.Ways.{of_way}
use Rattle.line_law.proofs.Words.{of_way-with, of_way-with_opposite}

-- the pair of a section
abbrev pub pair_of_section : Section → ℕ
pair_of_section section = pair_no section.rear (Out section.way)

-- the line after box b's decision in pair q
abbrev pub line_after : LineState → ℕ → ℕ → Way → Decision → LineState
line_after state b q v d = (done_at state b q (on_pair v d (pair_at state q))).after

-- a decision is on other words than those of way w in pair p
abbrev pub IsElsewhere : Decision → ℕ → Way → ℕ → Way → Type 0
IsElsewhere d q v p w = (q ≢ p) ⊎ ((v ≡ opposite w) ⊎ IsLocal d)

own : (d : Decision) (w : Way) (pair : PairState) (P : BoxState → Bell → Block → List Passage → Type 0)
    → AfterOwn d P (of_way pair.bells w) (of_way pair.blocks w) (of_way pair.lines w)
    → P (on_pair w d pair).here (of_way (on_pair w d pair).word.bells w) (of_way (on_pair w d pair).word.blocks w)
    (of_way (on_pair w d pair).word.lines w)
own (Here r h) w pair P p = p
own (OnBell act) w pair P p =
    let told : Told Bell = act (of_way pair.bells w) in
    let F : Bell → Type 0 = λ x. P told.here x (of_way pair.blocks w) (of_way pair.lines w) in
    subst F (sym (of_way-with pair.bells w told.word)) p
own (OnBlock act) w pair P p =
    let told : Told Block = act (of_way pair.blocks w) in
    let F : Block → Type 0 = λ x. P told.here (of_way pair.bells w) x (of_way pair.lines w) in
    subst F (sym (of_way-with pair.blocks w told.word)) p
own (OnPlainLine act) w pair P p =
    let told : Told (List Passage) = act (of_way pair.lines w) in
    let F : List Passage → Type 0 = λ x. P told.here (of_way pair.bells w) (of_way pair.blocks w) x in
    subst F (sym (of_way-with pair.lines w told.word)) p

-- after a decision on another word
pub elsewhere_told : (d : Decision) (v : Way) (pair : PairState) (P : BoxState → Type 0) → AfterElsewhere d P
    → P (on_pair v d pair).here
elsewhere_told (Here r h) v pair P p = p
elsewhere_told (OnBell act) v pair P p = p (of_way pair.bells v)
elsewhere_told (OnBlock act) v pair P p = p (of_way pair.blocks v)
elsewhere_told (OnPlainLine act) v pair P p = p (of_way pair.lines v)

record SameWords (w : Way) (x y : PairState) : Type 0 where
  bell : of_way x.bells w ≡ of_way y.bells w
  block : of_way x.blocks w ≡ of_way y.blocks w
  line : of_way x.lines w ≡ of_way y.lines w

same_words : (w : Way) (x y : PairState) → x ≡ y → SameWords w x y
same_words w x y e =
    record {
      bell = ap (λ (z : PairState). of_way z.bells w) e;
      block =
          ap (λ (z : PairState). of_way z.blocks w) e;
      line = ap (λ (z : PairState). of_way z.lines w) e;
    }

then_words : (w : Way) (x y z : PairState) → SameWords w x y → SameWords w y z → SameWords w x z
then_words w x y z f g = record { bell = f.bell ∙ g.bell; block = f.block ∙ g.block; line = f.line ∙ g.line }

in_pair : (d : Decision) (v w : Way) (pair : PairState) → (v ≡ opposite w) ⊎ IsLocal d
    → SameWords w (on_pair v d pair).word pair
in_pair (Here r h) v w pair off = record { bell = refl; block = refl; line = refl }
in_pair (OnBell act) v w pair (inl e) =
    rw e (record { bell = of_way-with_opposite pair.bells w _; block = refl; line = refl })
in_pair (OnBell act) v w pair (inr h) = absurd h
in_pair (OnBlock act) v w pair (inl e) =
    rw e (record { bell = refl; block = of_way-with_opposite pair.blocks w _; line = refl })
in_pair (OnBlock act) v w pair (inr h) = absurd h
in_pair (OnPlainLine act) v w pair (inl e) =
    rw e (record { bell = refl; block = refl; line = of_way-with_opposite pair.lines w _ })
in_pair (OnPlainLine act) v w pair (inr h) = absurd h

words_at : (s : LineState) (b p q : ℕ) (v w : Way) (d : Decision) → p < length s.pairs
    → ((eqb q p ≡ true) × (q ≡ p)) ⊎ ((eqb q p ≡ false) × (q ≢ p)) → IsElsewhere d q v p w
    → SameWords w (pair_at (line_after s b q v d) p) (pair_at s p)
words_at s b p q v w d p_in (inr apart) off =
    same_words w _ _ (get_or-set_other s.pairs q p _ opening_pair (λ e. apart.1 (sym e)))
words_at s b p q v w d p_in (inl one) (inl ne) = absurd (ne one.1)
words_at s b p q v w d p_in (inl one) (inr off) =
    let F : ℕ → Type 0 = λ k. SameWords w (pair_at (line_after s b k v d) p) (pair_at s p) in
    subst F (sym one.1)
    (then_words w _ _ _ (same_words w _ _ (get_or-set_same s.pairs p _ opening_pair p_in))
    (in_pair d v w (pair_at s p) off))

along : (Q : Fact) (r r' a a' : BoxState) (b b' : Bell) (k k' : Block) (t t' : List Passage) → r' ≡ r → a' ≡ a → b' ≡ b
    → k' ≡ k → t' ≡ t → Q r a b k t → Q r' a' b' k' t'
along Q r r' a a' b b' k k' t t' er ea eb ek et q = rw (er, ea, eb, ek, et) q

-- the rear box, on the section's words
pub lift_rear_own : (Q : Fact) (s : LineState) (x : Section) (d : Decision) → x.rear ≢ advance_of x
    → x.rear < length s.boxes → pair_of_section x < length s.pairs
    → AfterOwn d (λ h b k t. Q h (box_at s (advance_of x)) b k t) (of_way (pair_in s x).bells x.way)
    (of_way (pair_in s x).blocks x.way) (of_way (pair_in s x).lines x.way)
    → Holds Q (line_after s x.rear (pair_of_section x) x.way d) x
lift_rear_own Q s x d two b_in p_in h =
    let told : Told PairState = on_pair x.way d (pair_in s x) in
    let words = same_words x.way _ _ (get_or-set_same s.pairs (pair_of_section x) told.word opening_pair p_in) in
    along Q _ _ _ _ _ _ _ _ _ _
    (get_or-set_same s.boxes x.rear told.here no_state b_in)
    (get_or-set_other s.boxes x.rear (advance_of x) told.here no_state (λ e. two (sym e)))
    words.bell words.block words.line (own d x.way (pair_in s x) _ h)

-- the rear box, elsewhere
pub lift_rear_off : (Q : Fact) (s : LineState) (x : Section) (q : ℕ) (v : Way) (d : Decision) → x.rear ≢ advance_of x
    → x.rear < length s.boxes → pair_of_section x < length s.pairs → IsElsewhere d q v (pair_of_section x) x.way
    → AfterElsewhere d
    (λ h. Q h (box_at s (advance_of x)) (of_way (pair_in s x).bells x.way) (of_way (pair_in s x).blocks x.way)
    (of_way (pair_in s x).lines x.way))
    → Holds Q (line_after s x.rear q v d) x
lift_rear_off Q s x q v d two b_in p_in off h =
    let told : Told PairState = on_pair v d (pair_at s q) in
    let words = words_at s x.rear (pair_of_section x) q v x.way d p_in (eqb_tells q (pair_of_section x)) off in
    along Q _ _ _ _ _ _ _ _ _ _
    (get_or-set_same s.boxes x.rear told.here no_state b_in)
    (get_or-set_other s.boxes x.rear (advance_of x) told.here no_state (λ e. two (sym e)))
    words.bell words.block words.line (elsewhere_told d v (pair_at s q) _ h)

-- the box in advance, on the section's words
pub lift_advance_own : (Q : Fact) (s : LineState) (x : Section) (d : Decision) → x.rear ≢ advance_of x
    → advance_of x < length s.boxes → pair_of_section x < length s.pairs
    → AfterOwn d (λ h b k t. Q (box_at s x.rear) h b k t) (of_way (pair_in s x).bells x.way)
    (of_way (pair_in s x).blocks x.way) (of_way (pair_in s x).lines x.way)
    → Holds Q (line_after s (advance_of x) (pair_of_section x) x.way d) x
lift_advance_own Q s x d two b_in p_in h =
    let told : Told PairState = on_pair x.way d (pair_in s x) in
    let words = same_words x.way _ _ (get_or-set_same s.pairs (pair_of_section x) told.word opening_pair p_in) in
    along Q _ _ _ _ _ _ _ _ _ _
    (get_or-set_other s.boxes (advance_of x) x.rear told.here no_state two)
    (get_or-set_same s.boxes (advance_of x) told.here no_state b_in)
    words.bell words.block words.line (own d x.way (pair_in s x) _ h)

-- the box in advance, elsewhere
pub lift_advance_off : (Q : Fact) (s : LineState) (x : Section) (q : ℕ) (v : Way) (d : Decision) → x.rear ≢ advance_of x
    → advance_of x < length s.boxes → pair_of_section x < length s.pairs → IsElsewhere d q v (pair_of_section x) x.way
    → AfterElsewhere d
    (λ h. Q (box_at s x.rear) h (of_way (pair_in s x).bells x.way) (of_way (pair_in s x).blocks x.way)
    (of_way (pair_in s x).lines x.way))
    → Holds Q (line_after s (advance_of x) q v d) x
lift_advance_off Q s x q v d two b_in p_in off h =
    let told : Told PairState = on_pair v d (pair_at s q) in
    let words = words_at s (advance_of x) (pair_of_section x) q v x.way d p_in (eqb_tells q (pair_of_section x)) off in
    along Q _ _ _ _ _ _ _ _ _ _
    (get_or-set_other s.boxes (advance_of x) x.rear told.here no_state two)
    (get_or-set_same s.boxes (advance_of x) told.here no_state b_in)
    words.bell words.block words.line (elsewhere_told d v (pair_at s q) _ h)

-- a third box
pub lift_third : (Q : Fact) (s : LineState) (x : Section) (b q : ℕ) (v : Way) (d : Decision) → b ≢ x.rear
    → b ≢ advance_of x → pair_of_section x < length s.pairs → IsElsewhere d q v (pair_of_section x) x.way
    → Holds Q s x → Holds Q (line_after s b q v d) x
lift_third Q s x b q v d nr na p_in off h =
    let told : Told PairState = on_pair v d (pair_at s q) in
    let words = words_at s b (pair_of_section x) q v x.way d p_in (eqb_tells q (pair_of_section x)) off in
    along Q _ _ _ _ _ _ _ _ _ _
    (get_or-set_other s.boxes b x.rear told.here no_state (λ e. nr (sym e)))
    (get_or-set_other s.boxes b (advance_of x) told.here no_state (λ e. na (sym e)))
    words.bell words.block words.line h
