-- What a deed adds to the deeds of each train.
use Rattle.std.proofs.Common.{◌≡◌, ◌∙◌, ℕ, ◌+◌, ◌<◌, Bool, true, false, cond, List, [], ◌∷◌, ◌++◌, length}
use Rattle.std.proofs.Common.{get_or, take, ap, arith, eqb, not, sym}
use Rattle.std.proofs.lemmas.Bool.{eq-eqb, ne_eqb}
use Rattle.std.proofs.lemmas.List.{append-nil}
use Rattle.std.proofs.lemmas.List.Elements.{filter_more}
use Rattle.std.proofs.lemmas.List.FromFn.{filter_of_map_range_with_len_more}
use Rattle.graph_scene.specs.declared.deeds.TrainDeed.{TrainDeed}
use Rattle.graph_scene.specs.Lines.{deeds_by, is_drawn, line_of, lines_by}

dealt : (deeds : List TrainDeed) (i t : ℕ) (d : TrainDeed) (test : Bool) → i < length deeds → get_or deeds i d ≡ d
    → eqb d.train t ≡ test
    → deeds_by t (take (i + 1) deeds) ≡ deeds_by t (take i deeds) ++ cond test (d ∷ []) []
dealt deeds i t d test within is tests =
    filter_more (λ (x : TrainDeed). eqb x.train t) deeds i d within
    ∙ ap (λ (x : TrainDeed). deeds_by t (take i deeds) ++ cond (eqb x.train t) (x ∷ []) []) is
    ∙ ap (λ (b : Bool). deeds_by t (take i deeds) ++ cond b (d ∷ []) []) tests

-- a deed of this train
pub dealt_here : (deeds : List TrainDeed) (i t : ℕ) (d : TrainDeed) → i < length deeds → get_or deeds i d ≡ d
    → d.train ≡ t → deeds_by t (take (i + 1) deeds) ≡ deeds_by t (take i deeds) ++ d ∷ []
dealt_here deeds i t d within is same = dealt deeds i t d true within is (eq-eqb d.train t same)

-- a deed of another
pub dealt_elsewhere : (deeds : List TrainDeed) (i t : ℕ) (d : TrainDeed) → i < length deeds → get_or deeds i d ≡ d
    → (d.train ≡ t → ⊥) → deeds_by t (take (i + 1) deeds) ≡ deeds_by t (take i deeds)
dealt_elsewhere deeds i t d within is other =
    dealt deeds i t d false within is (ne_eqb d.train t other) ∙ append-nil (deeds_by t (take i deeds))

-- ---- lines

next_line : (deeds : List TrainDeed) (n : ℕ) (hidden : Bool) → eqb (length (deeds_by (n + 1) deeds)) 0 ≡ hidden
    → lines_by n deeds ++ cond (not hidden) (line_of deeds (n + 1) ∷ []) [] ≡ lines_by (n + 1) deeds
next_line deeds n hidden is =
    ap (λ (b : Bool). lines_by n deeds ++ cond (not b) (line_of deeds (n + 1) ∷ []) []) (sym is)
    ∙ sym (filter_of_map_range_with_len_more is_drawn (line_of deeds) 1 n (n + 1) (omega arith))

-- a train that did something
pub line_more : (deeds its : List TrainDeed) (n : ℕ) → its ≡ deeds_by (n + 1) deeds → eqb (length its) 0 ≡ false
    → lines_by n deeds ++ record { train = n + 1; deeds = its } ∷ [] ≡ lines_by (n + 1) deeds
line_more deeds its n is some =
    ap (λ (xs : List TrainDeed). lines_by n deeds ++ record { train = n + 1; deeds = xs } ∷ []) is
    ∙ next_line deeds n false (ap (λ (xs : List TrainDeed). eqb (length xs) 0) (sym is) ∙ some)

-- one that did nothing
pub line_none : (deeds its : List TrainDeed) (n : ℕ) → its ≡ deeds_by (n + 1) deeds → eqb (length its) 0 ≡ true
    → lines_by n deeds ≡ lines_by (n + 1) deeds
line_none deeds its n is none =
    sym (append-nil (lines_by n deeds))
    ∙ next_line deeds n true (ap (λ (xs : List TrainDeed). eqb (length xs) 0) (sym is) ∙ none)

pub ruleset line_rules = (line_more, line_none)

pub ruleset deal_rules = (dealt_here, dealt_elsewhere)
