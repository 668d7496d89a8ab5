-- The classes of a plan and their codes.
use Rattle.std.proofs.Common.{◌≡◌, ℕ, ◌+◌, ◌<◌, ◌≤◌, true, false, eqb, ltb, leb, List, [], ◌∷◌, ◌++◌, length, take}
use Rattle.std.proofs.Common.{None, Some, Option, IsTrue, is_some, refl, sym, ap, ◌∙◌, arith, bytes_eq}
use Rattle.std.specs.List.{list_any, list_all}
use Rattle.std.proofs.lemmas.Bool.Decides.{nat_tests}
use Rattle.std.proofs.lemmas.List.{map-append, length-append, length-map, take-append-le}
use Rattle.std.proofs.lemmas.List.Folds.{list_all-append}
use Rattle.bell_codes.specs.Table.{opening_codes, code_number}
use Rattle.bell_codes.specs.Reading.{code_of}
use Rattle.bell_codes.proofs.Numbers.{opening_is_table, added}
use Rattle.bell_codes.proofs.Texts.{read_spelled}
use Rattle.rail_text.specs.Names.{are_new}
use Rattle.rail_text.specs.Words.{is_name}
use Rattle.rail_text.proofs.DistinctNames.{distinct-append}
use Rattle.rail_text.proofs.PrintedLines.{both}
use Rattle.line_plan.specs.declared.plan.Class.{Class}
use Rattle.line_plan.specs.Plans.{AreClasses, names_of_classes, have_codes, class_code}
use Rattle.plan_draft.specs.Drafts.{opening_classes}

-- there are ten opening codes
pub opening_length : length opening_codes ≡ 10
unfolding opening_codes
opening_length = refl

-- the opening codes and classes are the codes and classes of a plan
pub opening_are : AreClasses opening_codes opening_classes
unfolding opening_codes
opening_are = record {
  table = opening_is_table;
  opening = refl;
  first = refl;
  each = refl;
  count = refl;
  some = omega arith;
  few = omega arith;
  named = refl;
  distinct = refl;
}

have_more : (i : ℕ) (xs : List Class) (c : Class) → IsTrue (have_codes i xs)
    → eqb c.code (class_code (i + length xs)) ≡ true → IsTrue (have_codes i (xs ++ c ∷ []))
have_more i [] c h e =
    let same : i + 0 ≡ i = omega arith in
    let own : eqb c.code (class_code i) ≡ true = ap (λ (k : ℕ). eqb c.code (class_code k)) (sym same) ∙ e in
    rw own refl
have_more i (x ∷ xs) c h e =
    let b = both (eqb x.code (class_code i)) (have_codes (i + 1) xs) h in
    let same : (i + 1) + length xs ≡ i + length (x ∷ xs) = omega arith in
    rw (b.0, have_more (i + 1) xs c b.1 (ap (λ (k : ℕ). eqb c.code (class_code k)) same ∙ e)) refl

none_of : (o : Option ℕ) → is_some o ≡ false → o ≡ None
none_of None e = refl
none_of (Some n) e = absurd cc

own_code : (n i : ℕ) → 4 ≤ i → n ≡ i + 7 → eqb n (class_code i) ≡ true
own_code n i low e = let late : ltb i 4 ≡ false = grind (arith, nat_tests) in rw (late, e) (same (i + 7)) where
  same : (k : ℕ) → eqb k k ≡ true
  same k = grind (arith, nat_tests)

-- a class of a new name, with a new code, may stand behind the classes while there are fewer than 200 codes
pub class_grows : (table : List (List ℕ)) (classes : List Class) (name text code : List ℕ) → AreClasses table classes
    → is_name name ≡ true → list_any (bytes_eq name) (names_of_classes classes) ≡ false → code_of text ≡ Some code
    → is_some (code_number table code) ≡ false
    → leb 200 (length table) ≡ false
    → AreClasses (table ++ code ∷ []) (classes ++ record { name = name; code = length table + 1 } ∷ [])
class_grows table classes name text code are good new spelled absent room =
    let c : Class = record { name = name; code = length table + 1 } in
    let short : length table < 200 = grind (arith, nat_tests) in
    let more = length-append table (code ∷ []) in
    let classes_more = length-append classes (c ∷ []) in
    let names : names_of_classes (classes ++ c ∷ [])
    ≡ names_of_classes classes ++ name ∷ [] = map-append (λ (x : Class). x.name) classes (c ∷ []) in
    record {
      table =
          added table code are.table (read_spelled text code spelled).0 (none_of (code_number table code) absent) short;
      opening = take-append-le 10 table (code ∷ []) (omega (arith, are.count, are.some)) ∙ are.opening;
      first =
          ap (take 4) names
          ∙ take-append-le 4 (names_of_classes classes) (name ∷ [])
          (omega (arith, are.some, length-map classes (λ (x : Class). x.name))) ∙ are.first;
      each =
          have_more 0 classes c are.each
          (own_code (length table + 1) (0 + length classes) (omega (arith, are.some)) (omega (arith, are.count)));
      count = omega (arith, more, classes_more, are.count);
      some = omega (arith, classes_more, are.some);
      few = omega (arith, classes_more, are.count, short);
      named =
          ap (list_all is_name) names ∙ list_all-append is_name (names_of_classes classes) (name ∷ [])
          ∙ rw (are.named, good) refl;
      distinct = ap (are_new []) names ∙ distinct-append (names_of_classes classes) name are.distinct new;
    }
