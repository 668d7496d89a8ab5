-- A chain of rows that grows by one row, and where it closes.
use Rattle.std.proofs.Common.{◌≡◌, ℕ, ◌+◌, ◌-◌, ◌<◌, ◌≤◌, Bool, true, false, List, [], ◌∷◌, ◌++◌, All, length}
use Rattle.std.proofs.Common.{refl, sym, ap, subst, ◌∙◌, arith, drop, eqb, get_or, if◌then◌else◌, inl, inr}
use Rattle.std.proofs.Common.{slice_set, take}
use Rattle.std.specs.Prelude.{Option, Some, None, cond, is_none}
use Rattle.std.specs.List.{count_by}
use Rattle.std.proofs.lemmas.Bool.Decides.{eqb_tells}
use Rattle.std.proofs.lemmas.List.{drop-append-le, get_or-replicate, get_or-set_other, get_or-set_same, length-drop}
use Rattle.std.proofs.lemmas.List.{length-replicate, length-set, length_push, take-append-le}
use Rattle.std.proofs.lemmas.List.Elements.{All-get_or}
use Rattle.std.proofs.lemmas.List.Sums.{sum_by-set}
use Rattle.std.proofs.Math.Seq.{drop-append_seam, take-append_seam}
use Rattle.locking_table.specs.declared.row.Row.{Row}
use Rattle.locking_table.specs.Index.{no_row}
use Rattle.locking_table.specs.Meaning.{holding_lever}
use Rattle.locking_table.specs.Places.{IsLever}
use Rattle.locking_table.specs.Sound.{RowFits}
use Rattle.frame_walk.specs.Walked.{Walked}
use Rattle.row_circles.specs.declared.chain.Chain.{Chain}
use Rattle.row_circles.specs.Chains.{IsFollowed, IsLonger, IsPassed, IsStart, left_of}
use Rattle.row_circles.specs.Circles.{AreHolders, IsChain, IsCircle, IsEnding, IsHolder, IsLink, holder_at}
use Rattle.row_circles.specs.Circles.{named_by}

either : (levers : ℕ) (row : Row) (test : Bool) → RowFits levers row
    → IsLever levers (if test then row.object else row.subject)
either levers row true fits = fits.object
either levers row false fits = fits.subject

-- the lever that a row names is one of the frame
pub names_ours : (levers lever : ℕ) (row : Row) → RowFits levers row → IsLever levers (holding_lever row lever)
names_ours levers lever row fits = either levers row (eqb row.subject lever) fits

-- the row that is known to hold a lever
pub link_is : (w : Walked) (holders : List (Option ℕ)) (lever at : ℕ) → AreHolders w holders
    → IsLever w.levers lever → holder_at holders lever ≡ Some at → IsLink w holders lever at
link_is w holders lever at are is known = record {
  known = known;
  held = subst (λ (o : Option ℕ). IsHolder w lever o) known (are.each lever is);
}

-- one row more
pub chain_more : (w : Walked) (holders : List (Option ℕ)) (first : ℕ) (places : List ℕ) (here at : ℕ)
    → IsChain w holders first places here → IsLink w holders here at
    → IsChain w holders first (places ++ at ∷ []) (named_by w.rows here at)
chain_more w holders first [] here at chain link =
    (subst (λ (l : ℕ). IsLink w holders l at) chain link, ap (λ (l : ℕ). named_by w.rows l at) chain)
chain_more w holders first (place ∷ places) here at chain link =
    (chain.0, chain_more w holders (named_by w.rows first place) places here at chain.1 link)

-- a chain that has passed no lever yet
pub followed_start : (w : Walked) (holders : List (Option ℕ)) (lever : ℕ) (chain : Chain) → IsLever w.levers lever
    → IsStart w.levers lever chain → IsFollowed w holders lever chain
followed_start w holders lever chain is start = record {
  long = ap (λ (ps : List (Option ℕ)). length ps) start.passed ∙ length-replicate w.levers None;
  ours = subst (λ (l : ℕ). IsLever w.levers l) (sym start.here) is;
  leads = subst (λ (ps : List ℕ). IsChain w holders lever ps chain.here) (sym start.rows) start.here;
  each = λ k place lt found. absurd
      (let none : None ≡ Some place =
      sym (get_or-replicate w.levers k None None lt)
      ∙ ap (λ (ps : List (Option ℕ)). get_or ps k None) (sym start.passed) ∙ found in cc);
}

-- the lever that has been passed with the row that is pushed
module _ (w : Walked) (holders : List (Option ℕ)) (first here at : ℕ) (rows : List ℕ)
    (leads : IsChain w holders first rows here) (link : IsLink w holders here at) where
  pub passed_new : IsPassed w holders first here (named_by w.rows here at) (length rows) (rows ++ at ∷ [])
  passed_new = record {
    within = omega (arith, length_push rows at);
    before = subst (λ (ps : List ℕ). IsChain w holders first ps here) (sym (take-append_seam rows (at ∷ []))) leads;
    behind = subst (λ (ps : List ℕ). IsChain w holders here ps (named_by w.rows here at))
        (sym (drop-append_seam rows (at ∷ []))) (link, refl);
  }

  -- and one that was passed before
  pub passed_old : (lever place : ℕ) → IsPassed w holders first lever here place rows
      → IsPassed w holders first lever (named_by w.rows here at) place (rows ++ at ∷ [])
  passed_old lever place old =
      let lt : place < length rows = old.within in
      let le : place ≤ length rows = omega (arith, lt) in
      record {
        within = omega (arith, length_push rows at, lt);
        before = subst (λ (ps : List ℕ). IsChain w holders first ps lever)
            (sym (take-append-le place rows (at ∷ []) le)) old.before;
        behind = subst (λ (ps : List ℕ). IsChain w holders lever ps (named_by w.rows here at))
            (sym (drop-append-le place rows (at ∷ []) le))
            (chain_more w holders lever (drop place rows) here at old.behind link);
      }

-- the chain with one row more
module _ (w : Walked) (holders : List (Option ℕ)) (first at : ℕ) (old new : Chain)
    (followed : IsFollowed w holders first old) (link : IsLink w holders old.here at)
    (longer : IsLonger w.rows at old new) where
  room : old.here - 1 < length old.passed.items
  room = omega (arith, followed.long, followed.ours.0, followed.ours.1)

  abbrev IsNow : ℕ → ℕ → Type 0
  IsNow lever place = IsPassed w holders first lever (named_by w.rows old.here at) place (old.rows.items ++ at ∷ [])

  now_passed : (k place : ℕ) → k < w.levers
      → get_or (slice_set old.passed.items (old.here - 1) (Some (length old.rows.items))) k None ≡ Some place
      → IsNow (k + 1) place
  now_passed k place lt found = elim (eqb_tells k (old.here - 1)) [
    | inl same ↦
        let here : old.here ≡ k + 1 = omega (arith, same.1, followed.ours.0) in
        let set : get_or (slice_set old.passed.items (old.here - 1) (Some (length old.rows.items))) (old.here - 1) None
        ≡ Some (length old.rows.items) =
        get_or-set_same old.passed.items (old.here - 1) (Some (length old.rows.items)) None room in
        let is : Some (length old.rows.items) ≡ Some place =
        sym set
        ∙ ap (λ (n : ℕ). get_or (slice_set old.passed.items (old.here - 1) (Some (length old.rows.items))) n None)
        (sym same.1) ∙ found in
        let number : length old.rows.items ≡ place = cc in
        subst (λ (l : ℕ). IsNow l place) here
        (subst (λ (n : ℕ). IsNow old.here n) number
        (passed_new w holders first old.here at old.rows.items followed.leads link))
    | inr other ↦
        let kept = get_or-set_other old.passed.items (old.here - 1) k (Some (length old.rows.items)) None other.1 in
        passed_old w holders first old.here at old.rows.items followed.leads link (k + 1) place
        (followed.each k place lt (sym kept ∙ found))
  ]

  pub followed_more : All (RowFits w.levers) w.rows → IsFollowed w holders first new
  followed_more fits = record {
    long = ap (λ (ps : List (Option ℕ)). length ps) longer.passed
        ∙ length-set old.passed.items (old.here - 1) (Some (length old.rows.items)) ∙ followed.long;
    ours = subst (λ (l : ℕ). IsLever w.levers l) (sym longer.here)
        (names_ours w.levers old.here (get_or w.rows at no_row)
        (All-get_or (RowFits w.levers) w.rows at no_row link.held.within fits));
    leads = subst (λ (ps : List ℕ). IsChain w holders first ps new.here) (sym longer.rows)
        (subst (λ (l : ℕ). IsChain w holders first (old.rows.items ++ at ∷ []) l) (sym longer.here)
        (chain_more w holders first old.rows.items old.here at followed.leads link));
    each = λ k place lt found.
        subst (λ (ps : List ℕ). IsPassed w holders first (k + 1) new.here place ps) (sym longer.rows)
        (subst (λ (l : ℕ). IsPassed w holders first (k + 1) l place (old.rows.items ++ at ∷ [])) (sym longer.here)
        (now_passed k place lt
        (ap (λ (ps : List (Option ℕ)). get_or ps k None) (sym longer.passed) ∙ found)));
  }

  -- one lever fewer is left to be passed
  pub fewer_left : get_or old.passed.items (old.here - 1) None ≡ None → left_of new < left_of old
  fewer_left none =
      let weigh : Option ℕ → ℕ = λ (place : Option ℕ). cond (is_none place) 1 0 in
      let sums = sum_by-set weigh old.passed.items (old.here - 1) (Some (length old.rows.items)) None room in
      let was : weigh (get_or old.passed.items (old.here - 1) None) ≡ 1 = ap weigh none in
      let now : left_of new
      ≡ count_by (λ (place : Option ℕ). is_none place)
      (slice_set old.passed.items (old.here - 1) (Some (length old.rows.items))) =
      ap (λ (ps : List (Option ℕ)). count_by (λ (place : Option ℕ). is_none place) ps) longer.passed in
      omega (arith, sums, was, now)

-- the row of the lever to which the chain has come, where that one was passed
pub passed_here : (w : Walked) (holders : List (Option ℕ)) (first from : ℕ) (chain : Chain)
    → IsFollowed w holders first chain → get_or chain.passed.items (chain.here - 1) None ≡ Some from
    → IsPassed w holders first chain.here chain.here from chain.rows.items
passed_here w holders first from chain followed closes =
    let same : chain.here - 1 + 1 ≡ chain.here = omega (arith, followed.ours.0) in
    subst (λ (l : ℕ). IsPassed w holders first l chain.here from chain.rows.items) same
    (followed.each (chain.here - 1) from (omega (arith, followed.ours.0, followed.ours.1)) closes)

-- the chain has come to a lever that it has passed
pub circle_is : (w : Walked) (holders : List (Option ℕ)) (first from : ℕ) (chain : Chain) (circle : List ℕ)
    → IsFollowed w holders first chain → get_or chain.passed.items (chain.here - 1) None ≡ Some from
    → circle ≡ drop from chain.rows.items → IsCircle w holders first circle
circle_is w holders first from chain circle followed closes is =
    let passed = passed_here w holders first from chain followed closes in
    let lt : from < length chain.rows.items = passed.within in
    record {
      way = take from chain.rows.items;
      first = chain.here;
      leads = passed.before;
      round = subst (λ (ps : List ℕ). IsChain w holders chain.here ps chain.here) (sym is) passed.behind;
      some =
          let long = ap (λ (ps : List ℕ). length ps) is in
          omega (arith, long, length-drop from chain.rows.items, lt);
    }

-- the chain has come to a lever for which no row is known
pub ending_is : (w : Walked) (holders : List (Option ℕ)) (first : ℕ) (chain : Chain)
    → IsFollowed w holders first chain → holder_at holders chain.here ≡ None → IsEnding w holders first
ending_is w holders first chain followed none = record {
  way = chain.rows.items;
  last = chain.here;
  leads = followed.leads;
  none = none;
}
