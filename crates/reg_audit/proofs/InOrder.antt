-- The breaches by one entry, and lists in order.
use Rattle.std.proofs.Common.{◌≡◌, ◌⊎◌, ℕ, suc, zero, ◌+◌, ◌<◌, Bool, true, false, cond, inl, inr, List, [], ◌∷◌, ◌++◌}
use Rattle.std.proofs.Common.{map, drop, length, get_or, refl, sym, ap, subst, ◌∙◌, arith, All}
use Rattle.std.specs.Prelude.{◌↔◌, Contains, filter}
use Rattle.std.specs.List.{AllPairs}
use Rattle.std.proofs.lemmas.List.{append_assoc, drop_more, get_or-map, length-map}
use Rattle.std.proofs.lemmas.List.Elements.{All-append, All-contains, All-head, All-map, All-tail, All-weaker}
use Rattle.std.proofs.lemmas.List.Elements.{filter_passes}
use Rattle.std.proofs.lemmas.List.Kept.{AllPairs-cons, AllPairs-filter}
use Rattle.reg_audit.specs.declared.rule.Breach.{Breach}
use Rattle.reg_audit.specs.declared.rule.Rule.{Rule}
use Rattle.reg_audit.specs.declared.rule.Rule.TheVariants as rules
use Rattle.reg_audit.specs.Audits.{ComesBefore}
use Rattle.reg_audit.specs.Rules.{all_rules, rule_number}

-- ---- what a list contains

contains_head : {X : Type 0} (x : X) (xs : List X) → Contains (x ∷ xs) x
contains_head x xs = (0, omega arith, refl)

contains_tail : {X : Type 0} (y x : X) (xs : List X) → Contains xs x → Contains (y ∷ xs) x
contains_tail y x xs h = (suc h.0, let lt = h.1 in omega (arith, lt), h.2)

contains_cases : {X : Type 0} (y x : X) (xs : List X) → Contains (y ∷ xs) x → (y ≡ x) ⊎ Contains xs x
contains_cases y x xs (zero, lt, is) = inl is
contains_cases y x xs (suc k, lt, is) = inr (k, omega (arith, lt), is)

-- nothing is among none
pub contains_none : {X : Type 0} (x : X) → ¬ Contains [] x
contains_none x h = let lt = h.1 in omega (arith, lt)

contains_kept : {X : Type 0} (test : X → Bool) (x : X) (xs : List X) → test x ≡ true → Contains xs x
    → Contains (filter test xs) x
contains_kept test x [] passes h = absurd (contains_none x h)
contains_kept {X = X} test x (y ∷ xs) passes h =
    go (test y) refl (contains_cases y x xs h) (λ later. contains_kept test x xs passes later) where
      go : (kept : Bool) → test y ≡ kept → (y ≡ x) ⊎ Contains xs x
          → (Contains xs x → Contains (filter test xs) x)
          → Contains (cond kept (y ∷ filter test xs) (filter test xs)) x
      go true is (inl same) later = subst (λ (z : X). Contains (z ∷ filter test xs) x) (sym same) (contains_head x _)
      go true is (inr there) later = contains_tail y x _ (later there)
      go false is (inl same) later =
          absurd (let no : test x ≡ false = subst (λ (z : X). test z ≡ false) same is in cc)
      go false is (inr there) later = later there

contains_mapped : {X Y : Type 0} (f : X → Y) (x : X) (xs : List X) → Contains xs x → Contains (map f xs) (f x)
contains_mapped f x [] h = absurd (contains_none x h)
contains_mapped {X = X} {Y = Y} f x (y ∷ xs) h = elim (contains_cases y x xs h) [
  | inl same ↦ subst (λ (z : X). Contains (f z ∷ map f xs) (f x)) (sym same) (contains_head (f x) (map f xs))
  | inr there ↦ contains_tail (f y) (f x) (map f xs) (contains_mapped f x xs there)
]

-- ---- the rules

has_rule : (rule : Rule) → Contains all_rules rule
has_rule rules.Offer = (0, omega arith, refl)
has_rule rules.Clear = (1, omega arith, refl)
has_rule rules.Entering = (2, omega arith, refl)
has_rule rules.Berth = (3, omega arith, refl)
has_rule rules.Out = (4, omega arith, refl)
has_rule rules.Normal = (5, omega arith, refl)
has_rule rules.Danger = (6, omega arith, refl)
has_rule rules.Divided = (7, omega arith, refl)
has_rule rules.Release = (8, omega arith, refl)

abbrev Rises : Rule → Rule → Type 0
Rises one other = rule_number one < rule_number other

-- the rule at a place has the next number
rule_at : (k : ℕ) (d : Rule) → k < 9 → rule_number (get_or all_rules k d) ≡ k + 1
rule_at zero d lt = refl
rule_at (suc zero) d lt = refl
rule_at (suc (suc zero)) d lt = refl
rule_at (suc (suc (suc zero))) d lt = refl
rule_at (suc (suc (suc (suc zero)))) d lt = refl
rule_at (suc (suc (suc (suc (suc zero))))) d lt = refl
rule_at (suc (suc (suc (suc (suc (suc zero)))))) d lt = refl
rule_at (suc (suc (suc (suc (suc (suc (suc zero))))))) d lt = refl
rule_at (suc (suc (suc (suc (suc (suc (suc (suc zero)))))))) d lt = refl
rule_at (suc (suc (suc (suc (suc (suc (suc (suc (suc k))))))))) d lt = absurd (omega (arith, lt))

rules_rise : AllPairs Rises all_rules
rules_rise i j d less lt =
    let first = rule_at i d (omega (arith, less, lt)) in
    let second = rule_at j d (omega (arith, lt)) in
    omega (arith, first, second, less)

-- ---- the breaches by one entry

-- the breach of a rule by entry k
abbrev pub breach_by : ℕ → Rule → Breach
breach_by k rule = record { entry = k; rule = rule }

-- the breaches of entry k, where these rules are broken
abbrev pub by_entry : ℕ → (Rule → Bool) → List Breach
by_entry k broken = map (breach_by k) (filter broken all_rules)

abbrev IsBy : ℕ → (Rule → Bool) → Breach → Type 0
IsBy k broken breach = (breach.entry ≡ k) × (broken breach.rule ≡ true)

all_by : (k : ℕ) (broken : Rule → Bool) → All (IsBy k broken) (by_entry k broken)
all_by k broken = All-map (IsBy k broken) (breach_by k) (filter broken all_rules)
    (All-weaker (λ rule. broken rule ≡ true) (λ rule. IsBy k broken (breach_by k rule)) (λ rule is. (refl, is))
    (filter broken all_rules) (filter_passes broken all_rules))

-- the breaches by an entry are those of the rules that it breaks
pub entry_breaches : (k : ℕ) (broken : Rule → Bool) (breach : Breach)
    → (Contains (by_entry k broken) breach ↔ (breach.entry ≡ k) × (broken breach.rule ≡ true))
entry_breaches k broken breach = (
  λ h. All-contains (IsBy k broken) (by_entry k broken) breach (all_by k broken) h,
  λ h. subst (λ (n : ℕ). Contains (by_entry k broken) (breach_by n breach.rule)) (sym h.0)
      (contains_mapped (breach_by k) breach.rule (filter broken all_rules)
      (contains_kept broken breach.rule all_rules h.1 (has_rule breach.rule))),
)

pairs_mapped : {X Y : Type 0} (R : Y → Y → Type 0) (f : X → Y) (xs : List X) (none : X)
    → AllPairs (λ x y. R (f x) (f y)) xs → AllPairs R (map f xs)
pairs_mapped R f xs none pairs i j d less lt =
    let within : j < length xs = let same = length-map xs f in omega (arith, lt, same) in
    let first = get_or-map f xs i none d (omega (arith, less, within)) in
    let second = get_or-map f xs j none d within in
    rw first (rw second (pairs i j none less within))

-- they stand in order
pub entry_order : (k : ℕ) (broken : Rule → Bool) → AllPairs ComesBefore (by_entry k broken)
entry_order k broken =
    pairs_mapped ComesBefore (breach_by k) (filter broken all_rules) rules.Offer
    (λ i j d less lt. inr (refl, AllPairs-filter Rises broken all_rules rules_rise i j d less lt))

-- ---- one list behind another

pairs_head : {X : Type 0} (R : X → X → Type 0) (x : X) (xs : List X) → AllPairs R (x ∷ xs) → All (R x) xs
pairs_head R x xs pairs k d lt = pairs 0 (suc k) d (omega arith) (omega (arith, lt))

pairs_tail : {X : Type 0} (R : X → X → Type 0) (x : X) (xs : List X) → AllPairs R (x ∷ xs) → AllPairs R xs
pairs_tail R x xs pairs i j d less lt = pairs (suc i) (suc j) d (omega (arith, less)) (omega (arith, lt))

-- two lists in order, the first of which comes before the other, are in order together
pub pairs_both : {X : Type 0} (R : X → X → Type 0) (xs ys : List X) → AllPairs R xs → AllPairs R ys
    → All (λ x. All (R x) ys) xs → AllPairs R (xs ++ ys)
pairs_both R [] ys p q across = q
pairs_both R (x ∷ xs) ys p q across =
    AllPairs-cons R x (xs ++ ys)
    (All-append (R x) xs ys (pairs_head R x xs p) (All-head (λ z. All (R z) ys) x xs across))
    (pairs_both R xs ys (pairs_tail R x xs p) q (All-tail (λ z. All (R z) ys) x xs across))

-- all breaches of entry k stand before those of later entries
pub before_later : (k : ℕ) (broken : Rule → Bool) (later : List Breach) → All (λ breach. k < breach.entry) later
    → All (λ breach. All (ComesBefore breach) later) (by_entry k broken)
before_later k broken later beyond =
    All-weaker (IsBy k broken) (λ breach. All (ComesBefore breach) later)
    (λ breach by. All-weaker (λ other. k < other.entry) (ComesBefore breach)
    (λ other less. inl (let same = by.0 in omega (arith, same, less))) later beyond) (by_entry k broken)
    (all_by k broken)

-- ---- one rule more

broken_next : (k : ℕ) (broken : Rule → Bool) (among : List Rule) (i : ℕ) (d : Rule) (b : Bool) → i < length among
    → broken (get_or among i d) ≡ b → map (breach_by k) (filter broken (drop i among))
    ≡ cond b (breach_by k (get_or among i d) ∷ []) []
    ++ map (breach_by k) (filter broken (drop (i + 1) among))
broken_next k broken among i d b within is =
    ap (λ (rules : List Rule). map (breach_by k) (filter broken rules)) (drop_more among i d within)
    ∙ go b is where
      go : (b : Bool) → broken (get_or among i d) ≡ b
          → map (breach_by k) (filter broken (get_or among i d ∷ drop (i + 1) among))
          ≡ cond b (breach_by k (get_or among i d) ∷ []) []
          ++ map (breach_by k) (filter broken (drop (i + 1) among))
      go true e = rw e refl
      go false e = rw e refl

-- the rule at this place is broken, and its breach was added
pub rule_broken : (k : ℕ) (broken : Rule → Bool) (among : List Rule) (i : ℕ) (d : Rule) (found whole : List Breach)
    → i < length among
    → found ++ map (breach_by k) (filter broken (drop i among)) ≡ whole
    → broken (get_or among i d) ≡ true
    → (found ++ breach_by k (get_or among i d) ∷ []) ++ map (breach_by k) (filter broken (drop (i + 1) among))
    ≡ whole
rule_broken k broken among i d found whole within so_far is =
    append_assoc found _ _
    ∙ ap (λ (bs : List Breach). found ++ bs) (sym (broken_next k broken among i d true within is)) ∙ so_far

-- it isn't
pub rule_kept : (k : ℕ) (broken : Rule → Bool) (among : List Rule) (i : ℕ) (d : Rule) (found whole : List Breach)
    → i < length among
    → found ++ map (breach_by k) (filter broken (drop i among)) ≡ whole
    → broken (get_or among i d) ≡ false
    → found ++ map (breach_by k) (filter broken (drop (i + 1) among)) ≡ whole
rule_kept k broken among i d found whole within so_far is =
    ap (λ (bs : List Breach). found ++ bs) (sym (broken_next k broken among i d false within is)) ∙ so_far
