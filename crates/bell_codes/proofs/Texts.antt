-- What is printed of a code is read as that code, and what is read is spelled so.
use Rattle.std.proofs.Common.{◌≡◌, ℕ, zero, suc, get_or, set, take, add-one, Bor, drop, replicate, ◌+◌, ◌-◌, ◌*◌, ◌/◌}
use Rattle.std.proofs.Common.{◌%◌, ◌<◌, ◌≤◌, Bool, true, false, cond, eqb, leb, ◌&&◌, List, [], ◌∷◌, ◌++◌, map, length}
use Rattle.std.proofs.Common.{Option, Some, None, refl, sym, ap, subst, ◌∙◌, arith, decimal, inl, inr, IsErr, IfOk}
use Rattle.std.proofs.Common.{Result, Ok, Err, ◌↔◌}
use Rattle.std.specs.List.{All, list_all, flat_map, join_with_byte}
use Rattle.std.specs.Result.{result_ok}
use Rattle.std.proofs.lemmas.Fmt.{decimal_digit, decimal_step}
use Rattle.std.proofs.lemmas.List.{length-append, length-map, append-nil, map-append, drop-drop, drop-set-lt}
use Rattle.std.proofs.lemmas.List.{drop-replicate}
use Rattle.std.proofs.lemmas.List.Folds.{list_all-append}
use Rattle.std.proofs.lemmas.List.Elements.{All-nil, All-cons}
use Rattle.std.proofs.lemmas.List.Splits.{slice_split_none, slice_split_at, length-slice_split}
use Rattle.std.proofs.lemmas.List.Splits.{join_with_byte-slice_split}
use Rattle.std.proofs.lemmas.Bool.Decides.{nat_tests}
use Rattle.std.proofs.lemmas.Bool.{cases_lt}
use Rattle.std.proofs.Math.Seq.{take-suc-set}
use Rattle.bell_codes.specs.Codes.{is_group, is_code, is_code_byte, further_group, code_text, Spells}
use Rattle.bell_codes.specs.Reading.{group_of, group_and_rest, groups_of, parts_of, code_of}

-- ---- tests

both : (a b : Bool) → (a && b) ≡ true → (a ≡ true) × (b ≡ true)
both true b h = (refl, h)
both false b h = absurd cc

all_of : (a b : Bool) → a ≡ true → b ≡ true → (a && b) ≡ true
all_of a b h k = rw (h, k) refl

chosen : {A : Type 0} (b : Bool) (x y : A) → b ≡ true → x ≡ y → cond b (Some x) None ≡ Some y
chosen b x y h e = rw (h, e) refl

chosen_some : {A : Type 0} (b : Bool) (x y : A) → cond b (Some x) None ≡ Some y → (b ≡ true) × (x ≡ y)
chosen_some true x y e = (refl, cc)
chosen_some false x y e = absurd cc

chosen_of : {A : Type 0} (b : Bool) (o : Option A) (y : A) → cond b o None ≡ Some y → (b ≡ true) × (o ≡ Some y)
chosen_of true o y e = (refl, e)
chosen_of false o y e = absurd cc

-- ---- a group

group_range : (n : ℕ) → is_group n ≡ true → (1 ≤ n) × (n ≤ 16)
group_range n h = grind (arith, nat_tests)

two_digits : (n : ℕ) → 10 ≤ n → n ≤ 16 → decimal n ≡ 49 ∷ (48 + (n - 10)) ∷ []
two_digits n low high =
    let tens : n / 10 ≡ 1 = omega arith in
    let ones : n % 10 ≡ n - 10 = omega arith in
    let one : decimal 1 ≡ 49 ∷ [] = decimal_digit 1 (omega arith) in
    decimal_step n low (omega arith) ∙ rw (tens, ones, one) refl

group_of-decimal : (n : ℕ) → is_group n ≡ true → group_of (decimal n) ≡ Some n
group_of-decimal n h =
    let r = group_range n h in
    elim (cases_lt n 10) [
      | inl small ↦ rw (decimal_digit n small) (chosen _ _ n (grind (arith, nat_tests, r)) (omega (arith, r.0)))
      | inr large ↦ rw (two_digits n large r.1) (chosen _ _ n (grind (arith, nat_tests, r)) (omega (arith, r.1)))
    ]

group_is : (part : List ℕ) (n : ℕ) → group_of part ≡ Some n → (is_group n ≡ true) × (part ≡ decimal n)
group_is [] n e = absurd cc
group_is (ones ∷ []) n e =
    let c = chosen_some (leb 49 ones && leb ones 57) (ones - 48) n e in
    let r : (49 ≤ ones) × (ones ≤ 57) = grind (arith, nat_tests, c.0) in
    let is : ones ≡ 48 + n = omega (arith, r.0, c.1) in
    (grind (arith, nat_tests, r, c.1), ap (λ x. x ∷ []) is ∙ sym (decimal_digit n (omega (arith, r.1, is))))
group_is (tens ∷ ones ∷ []) n e =
    let c = chosen_some (eqb tens 49 && leb 48 ones && leb ones 54) (10 + (ones - 48)) n e in
    let t : tens ≡ 49 = grind (arith, nat_tests, c.0) in
    let r : (48 ≤ ones) × (ones ≤ 54) = grind (arith, nat_tests, c.0) in
    let is : ones ≡ 48 + (n - 10) = omega (arith, r.0, c.1) in
    (grind (arith, nat_tests, r, c.1), rw (t, is) (sym (two_digits n (omega (arith, c.1)) (omega (arith, r.1, c.1)))))
group_is (tens ∷ ones ∷ more ∷ bytes) n e = absurd cc

-- ---- the parts of a code's text

-- the byte is a hyphen
abbrev pub is_hyphen : ℕ → Bool
is_hyphen byte = eqb byte 45

abbrev IsNoHyphen : ℕ → Type 0
IsNoHyphen byte = is_hyphen byte ≡ false

above_hyphen : (c : ℕ) → 48 ≤ c → IsNoHyphen c
above_hyphen c h = grind (arith, nat_tests)

no_hyphen : (n : ℕ) → is_group n ≡ true → All IsNoHyphen (decimal n)
no_hyphen n h =
    let r = group_range n h in
    elim (cases_lt n 10) [
      | inl small ↦
          rw (decimal_digit n small)
          (All-cons IsNoHyphen (48 + n) [] (above_hyphen (48 + n) (omega arith)) (All-nil IsNoHyphen))
      | inr large ↦
          rw (two_digits n large r.1)
          (All-cons IsNoHyphen 49 ((48 + (n - 10)) ∷ []) (above_hyphen 49 (omega arith))
          (All-cons IsNoHyphen (48 + (n - 10)) [] (above_hyphen (48 + (n - 10)) (omega arith)) (All-nil IsNoHyphen)))
    ]

parts_of-text : (first : ℕ) (rest : List ℕ) → is_group first ≡ true → list_all is_group rest ≡ true
    → parts_of (decimal first ++ flat_map further_group rest) ≡ decimal first ∷ map decimal rest
parts_of-text first [] h k = rw append-nil (slice_split_none is_hyphen (decimal first) (no_hyphen first h))
parts_of-text first (next ∷ rest) h k =
    let e = both (is_group next) (list_all is_group rest) k in
    slice_split_at is_hyphen (decimal first) 45 (decimal next ++ flat_map further_group rest) (no_hyphen first h) refl
    ∙ ap (λ (parts : List (List ℕ)). decimal first ∷ parts) (parts_of-text next rest e.0 e.1)

join-decimals : (first : ℕ) (rest : List ℕ)
    → join_with_byte 45 (decimal first ∷ map decimal rest) ≡ decimal first ++ flat_map further_group rest
join-decimals first [] = sym (append-nil (decimal first))
join-decimals first (next ∷ rest) = ap (λ (bytes : List ℕ). decimal first ++ 45 ∷ bytes) (join-decimals next rest)

-- ---- the groups of the parts

groups_of-decimals : (code : List ℕ) → list_all is_group code ≡ true → groups_of (map decimal code) ≡ Some code
groups_of-decimals [] h = refl
groups_of-decimals (first ∷ rest) h =
    let e = both (is_group first) (list_all is_group rest) h in
    rw (group_of-decimal first e.0, groups_of-decimals rest e.1) refl

record Before (o : Option ℕ) (p : Option (List ℕ)) (code : List ℕ) : Type 0 where
  first : ℕ
  rest : List ℕ
  group : o ≡ Some first
  groups : p ≡ Some rest
  whole : first ∷ rest ≡ code

before_is : (o : Option ℕ) (p : Option (List ℕ)) (code : List ℕ) → group_and_rest o p ≡ Some code → Before o p code
before_is None p code e = absurd cc
before_is (Some n) None code e = absurd cc
before_is (Some n) (Some rest) code e = record { first = n; rest = rest; group = refl; groups = refl; whole = cc }

record AreGroups (parts : List (List ℕ)) (code : List ℕ) : Type 0 where
  valid : list_all is_group code ≡ true
  parts_are : parts ≡ map decimal code

groups_are : (parts : List (List ℕ)) (code : List ℕ) → groups_of parts ≡ Some code → AreGroups parts code
groups_are [] code e =
    let none : [] ≡ code = cc in
    subst (AreGroups []) none (record { valid = refl; parts_are = refl })
groups_are (part ∷ parts) code e =
    let b = before_is (group_of part) (groups_of parts) code e in
    let g = group_is part b.first b.group in
    let r = groups_are parts b.rest b.groups in
    subst (AreGroups (part ∷ parts)) b.whole
    (record {
      valid = all_of _ _ g.0 r.valid;
      parts_are =
          ap (λ (x : List ℕ). x ∷ parts) g.1 ∙ ap (λ (ps : List (List ℕ)). decimal b.first ∷ ps) r.parts_are;
    })

-- ---- the laws

record CodeParts (code : List ℕ) : Type 0 where
  fewest : 1 ≤ length code
  most : length code ≤ 5
  valid : list_all is_group code ≡ true

code_parts : (code : List ℕ) → is_code code ≡ true → CodeParts code
unfolding is_code
code_parts code h =
    let e = both (leb 1 (length code) && leb (length code) 5) (list_all is_group code) h in
    let f = both (leb 1 (length code)) (leb (length code) 5) e.0 in
    record { fewest = grind (arith, nat_tests, f.0); most = grind (arith, nat_tests, f.1); valid = e.1 }

code_parts_back : (code : List ℕ) → CodeParts code → is_code code ≡ true
unfolding is_code
code_parts_back code h =
    let low : leb 1 (length code) ≡ true = grind (arith, nat_tests) in
    let high : leb (length code) 5 ≡ true = grind (arith, nat_tests) in
    all_of _ _ (all_of _ _ low high) h.valid

-- what is printed is read
pub read_text : (code : List ℕ) → is_code code ≡ true → code_of (code_text code) ≡ Some code
unfolding code_text code_of
read_text [] h = absurd (omega (arith, (code_parts [] h).fewest))
read_text (first ∷ rest) h =
    let c = code_parts (first ∷ rest) h in
    let e = both (is_group first) (list_all is_group rest) c.valid in
    let parts : parts_of (decimal first ++ flat_map further_group rest) ≡ map decimal (first ∷ rest) =
    parts_of-text first rest e.0 e.1 in
    let few : leb (length (map decimal (first ∷ rest))) 5 ≡ true = grind (arith, nat_tests, length-map, c.most) in
    rw (parts, few) (groups_of-decimals (first ∷ rest) c.valid)

code_text-joined : (code : List ℕ) → 1 ≤ length code → join_with_byte 45 (map decimal code) ≡ code_text code
unfolding code_text
code_text-joined [] h = absurd (omega arith)
code_text-joined (first ∷ rest) h = join-decimals first rest

-- what is read is spelled so
pub read_spelled : (word code : List ℕ) → code_of word ≡ Some code → Spells word code
unfolding code_of
read_spelled word code e =
    let c = chosen_of (leb (length (parts_of word)) 5) (groups_of (parts_of word)) code e in
    let few : length (parts_of word) ≤ 5 = grind (arith, nat_tests, c.0) in
    let a = groups_are (parts_of word) code c.1 in
    let len : length (parts_of word) ≡ length code = ap length a.parts_are ∙ length-map code decimal in
    let some : 1 ≤ length code = omega (arith, length-slice_split is_hyphen word) in (
      code_parts_back code (record { fewest = some; most = omega arith; valid = a.valid }),
      sym (join_with_byte-slice_split 45 word) ∙ ap (λ (parts : List (List ℕ)). join_with_byte 45 parts) a.parts_are
          ∙ code_text-joined code some,
    )

-- ---- the text as a word

record IsGroupText (text : List ℕ) : Type 0 where
  bytes : list_all is_code_byte text ≡ true
  some : 1 ≤ length text
  few : length text ≤ 2

digit_byte : (n : ℕ) → n < 10 → is_code_byte (48 + n) ≡ true
digit_byte n h = grind (arith, nat_tests)

group_text : (n : ℕ) → is_group n ≡ true → IsGroupText (decimal n)
group_text n h =
    let r = group_range n h in
    elim (cases_lt n 10) [
      | inl small ↦
          subst IsGroupText (sym (decimal_digit n small))
          (record { bytes = rw (digit_byte n small) refl; some = omega arith; few = omega arith })
      | inr large ↦
          subst IsGroupText (sym (two_digits n large r.1))
          (record { bytes = rw (digit_byte (n - 10) (omega (arith, r.1))) refl; some = omega arith; few = omega arith })
    ]

record IsRestText (text : List ℕ) (groups : ℕ) : Type 0 where
  bytes : list_all is_code_byte text ≡ true
  few : length text ≤ 3 * groups

rest_text : (rest : List ℕ) → list_all is_group rest ≡ true → IsRestText (flat_map further_group rest) (length rest)
rest_text [] h = record { bytes = refl; few = omega arith }
rest_text (next ∷ rest) h =
    let e = both (is_group next) (list_all is_group rest) h in
    let g = group_text next e.0 in
    let r = rest_text rest e.1 in
    record {
      bytes = rw (list_all-append, g.bytes, r.bytes) refl;
      few = rw length-append (omega (arith, g.few, r.few));
    }

-- the text of a code has no bytes but digits and hyphens
pub text_bytes : (code : List ℕ) → is_code code ≡ true → list_all is_code_byte (code_text code) ≡ true
unfolding code_text
text_bytes [] h = refl
text_bytes (first ∷ rest) h =
    let e = both (is_group first) (list_all is_group rest) (code_parts (first ∷ rest) h).valid in
    rw (list_all-append, (group_text first e.0).bytes, (rest_text rest e.1).bytes) refl

-- the text of a code has a byte at least
pub text_some : (code : List ℕ) → is_code code ≡ true → 1 ≤ length (code_text code)
unfolding code_text
text_some [] h = absurd (omega (arith, (code_parts [] h).fewest))
text_some (first ∷ rest) h =
    let e = both (is_group first) (list_all is_group rest) (code_parts (first ∷ rest) h).valid in
    rw length-append (omega (arith, (group_text first e.0).some))

-- the text of a code has 14 bytes at most
pub text_few : (code : List ℕ) → is_code code ≡ true → length (code_text code) ≤ 14
unfolding code_text
text_few [] h = omega arith
text_few (first ∷ rest) h =
    let c = code_parts (first ∷ rest) h in
    let e = both (is_group first) (list_all is_group rest) c.valid in
    let most : length rest + 1 ≤ 5 = omega (arith, c.most) in
    rw length-append (omega (arith, (group_text first e.0).few, (rest_text rest e.1).few, most))

pub ruleset text_rules = (text_bytes, text_some, text_few)

-- ---- a reader's way along the parts

-- a part that is no group
groups_of-bad : (parts : List (List ℕ)) (k : ℕ) (d : List ℕ) → k < length parts → group_of (get_or parts k d) ≡ None
    → groups_of parts ≡ None
groups_of-bad [] k d h e = absurd (omega arith)
groups_of-bad (part ∷ parts) zero d h e = rw e refl
groups_of-bad (part ∷ parts) (suc k) d h e =
    rw (groups_of-bad parts k d (omega arith) e) (before_none (group_of part)) where
      before_none : (o : Option ℕ) → group_and_rest o None ≡ None
      before_none None = refl
      before_none (Some beats) = refl

abbrev no_code : Option (List ℕ)
no_code = None

-- a word with a part that is no group spells no code
pub bad_part : (word : List ℕ) (k : ℕ) (part : List ℕ)
    → (k < length (parts_of word)) × (part ≡ get_or (parts_of word) k part) → group_of part ≡ None → code_of word ≡ None
unfolding code_of
bad_part word k part at e =
    rw (groups_of-bad (parts_of word) k part at.0 (ap group_of (sym at.1) ∙ e)) (none (leb (length (parts_of word)) 5))
  where
    none : (b : Bool) → cond b None no_code ≡ no_code
    none true = refl
    none false = refl

-- a word of more than five parts spells no code
pub many_parts : (word : List ℕ) → 5 < length (parts_of word) → code_of word ≡ None
unfolding code_of
many_parts word h = let many : leb (length (parts_of word)) 5 ≡ false = grind (arith, nat_tests) in rw many refl

-- a word of at most five parts, each a group, spells the code of these groups
pub few_parts : (word code : List ℕ) → length (parts_of word) ≤ 5 → groups_of (parts_of word) ≡ Some code
    → code_of word ≡ Some code
unfolding code_of
few_parts word code h e = let few : leb (length (parts_of word)) 5 ≡ true = grind (arith, nat_tests) in rw few e

-- one more part
pub groups_of-push : (parts : List (List ℕ)) (part : List ℕ) (code : List ℕ) (n : ℕ) → groups_of parts ≡ Some code
    → group_of part ≡ Some n → groups_of (parts ++ part ∷ []) ≡ Some (code ++ n ∷ [])
groups_of-push [] part code n e g = let none : [] ≡ code = cc in rw (g, ← none) refl
groups_of-push (first ∷ parts) part code n e g =
    let b = before_is (group_of first) (groups_of parts) code e in
    rw (b.group, groups_of-push parts part b.rest n b.groups g)
    (ap (λ (whole : List ℕ). Some (whole ++ n ∷ [])) b.whole)

pub one_more : (beats : List ℕ) (groups n : ℕ) → groups < length beats
    → take (groups + 1) (set beats groups n) ≡ take groups beats ++ n ∷ []
one_more beats groups n h = rw add-one (take-suc-set beats groups n h)

-- where some parts are the groups that were counted, and one part more is a group, they all are those groups with
-- its beats
pub more_parts : (parts : List (Bor (List ℕ))) (part : Bor (List ℕ)) (beats : List ℕ) (groups n : ℕ)
    → groups < length beats → groups_of (map (λ p. p.now) parts) ≡ Some (take groups beats) → group_of part.now ≡ Some n
    → groups_of (map (λ p. p.now) (parts ++ part ∷ [])) ≡ Some (take (groups + 1) (set beats groups n))
more_parts parts part beats groups n h e g =
    ap groups_of (map-append (λ (p : Bor (List ℕ)). p.now) parts (part ∷ []))
    ∙ groups_of-push (map (λ p. p.now) parts) part.now (take groups beats) n e g
    ∙ ap (λ (code : List ℕ). Some code) (sym (one_more beats groups n h))

-- an answer that is a fault gives no code
pub none_read : {E : Type 0} (r : Result (List ℕ) E) → IsErr r → result_ok r ≡ None
none_read (Ok code) e = absurd cc
none_read (Err f) e = refl

-- where there are no beats behind the groups so far, there are none behind one group more
pub zeros_behind : (beats : List ℕ) (groups n : ℕ) → drop groups beats ≡ replicate (5 - groups) 0
    → drop (groups + 1) (set beats groups n) ≡ replicate (5 - (groups + 1)) 0
zeros_behind beats groups n e =
    let kept : drop (groups + 1) (set beats groups n) ≡ drop (groups + 1) beats =
    drop-set-lt (groups + 1) beats groups n (omega arith) in
    let one : drop 1 (drop groups beats) ≡ drop (groups + 1) beats = drop-drop 1 groups beats in
    let zeros : drop 1 (drop groups beats) ≡ replicate (5 - groups - 1) 0 = rw e (drop-replicate 1 (5 - groups) 0) in
    let less : 5 - groups - 1 ≡ 5 - (groups + 1) = omega arith in
    cc

-- ---- what a reader answers

abbrev pub IsReading : {E : Type 0} → List ℕ → Result (List ℕ) E → Type 0
IsReading word r = result_ok r ≡ code_of word

-- a code that a reader answers is the one that the word spells
pub reading_spelled : {E : Type 0} (word : List ℕ) (r : Result (List ℕ) E) → IsReading word r
    → IfOk r (λ code. Spells word code)
reading_spelled word (Ok code) e = read_spelled word code (sym e)
reading_spelled word (Err f) e = tt

-- a reader answers a fault exactly where the word spells no code
pub reading_bad : {E : Type 0} (word : List ℕ) (r : Result (List ℕ) E) → IsReading word r
    → IsErr r ↔ ((code : List ℕ) → ¬ Spells word code)
reading_bad word (Ok code) e = (λ bad. absurd cc, λ none. absurd (none code (read_spelled word code (sym e))))
reading_bad word (Err f) e =
    (λ _ code spells. not_read code (sym (read_text code spells.0) ∙ ap code_of (sym spells.1) ∙ sym e), λ _. refl)
  where
    not_read : (code : List ℕ) → Some code ≡ None → ⊥
    not_read code h = cc
