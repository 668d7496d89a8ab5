-- The names of a set of texts, seen as a list of bytes.
use Rattle.std.proofs.Common.{◌≡◌, ℕ, zero, suc, ◌+◌, Bool, false, cond, not, ◌||◌, List, [], ◌∷◌, ◌++◌, map, position}
use Rattle.std.proofs.Common.{string_bytes, String, bytes_eq, refl, sym, ap, subst, ◌∙◌, get_or, Option, Some, None}
use Rattle.std.proofs.Common.{IsUtf8}
use Rattle.std.specs.Global.{Global}
use Rattle.std.specs.List.{list_any, position_or_len}
use Rattle.std.proofs.lemmas.List.{length-map, map-append}
use Rattle.std.proofs.lemmas.List.Quantifiers.{position-Some}
use Rattle.std.proofs.lemmas.Slice.Eq.{bytes_eq-Decides}
use Rattle.std.proofs.lemmas.Str.{IsUtf8-nil, IsUtf8-string_bytes}

-- one of the lists of bytes passes a test exactly where one of the texts passes it by its bytes
pub list_any-names : (p : List ℕ → Bool) (ks : List (String Global))
    → list_any p (map (λ k. string_bytes k) ks) ≡ list_any (λ k. p (string_bytes k)) ks
list_any-names p [] = refl
list_any-names p (k ∷ ks) = ap (λ (b : Bool). p (string_bytes k) || b) (list_any-names p ks)

position_or_len-names : (p : List ℕ → Bool) (ks : List (String Global))
    → position_or_len p (map (λ k. string_bytes k) ks) ≡ position_or_len (λ k. p (string_bytes k)) ks
position_or_len-names p [] = refl
position_or_len-names p (k ∷ ks) =
    ap (λ (n : ℕ). cond (not (p (string_bytes k))) (1 + n) 0) (position_or_len-names p ks)

-- a test first holds among the bytes of the texts at the place where it first holds among the texts
pub position-names : (p : List ℕ → Bool) (ks : List (String Global))
    → position p (map (λ k. string_bytes k) ks) ≡ position (λ k. p (string_bytes k)) ks
position-names p ks = rw (position_or_len-names p ks, length-map) refl

-- after an insert of a name that is not there
pub keys-inserted : (ks : List (String Global)) (k : String Global) (name : List ℕ) → string_bytes k ≡ name
    → list_any (bytes_eq name) (map (λ x. string_bytes x) ks) ≡ false
    → map (λ x. string_bytes x) (cond (list_any (λ x. bytes_eq (string_bytes k) (string_bytes x)) ks) ks (ks ++ k ∷ []))
    ≡ map (λ x. string_bytes x) ks ++ name ∷ []
keys-inserted ks k name e absent =
    let none : list_any (λ x. bytes_eq (string_bytes k) (string_bytes x)) ks ≡ false =
    sym (list_any-names (bytes_eq (string_bytes k)) ks) ∙ rw e absent in
    rw (none, map-append, e) refl

-- the names after an insert of a name that is not there
pub names-inserted : (old new : List (String Global)) (k : String Global) (names : List (List ℕ)) (name : List ℕ)
    → map (λ x. string_bytes x) old ≡ names → string_bytes k ≡ name → list_any (bytes_eq name) names ≡ false
    → new ≡ cond (list_any (λ x. bytes_eq (string_bytes k) (string_bytes x)) old) old (old ++ k ∷ [])
    → map (λ x. string_bytes x) new ≡ names ++ name ∷ []
names-inserted old new k names name view same absent keys =
    let absent_there : list_any (bytes_eq name) (map (λ x. string_bytes x) old) ≡ false =
    ap (list_any (bytes_eq name)) view ∙ absent in
    ap (λ (ks : List (String Global)). map (λ x. string_bytes x) ks) keys
    ∙ keys-inserted old k name same absent_there
    ∙ ap (λ (ns : List (List ℕ)). ns ++ name ∷ []) view

-- each name is a text
name_is_text : (ks : List (String Global)) (i : ℕ) → IsUtf8 (get_or (map (λ k. string_bytes k) ks) i [])
name_is_text [] i = IsUtf8-nil
name_is_text (k ∷ ks) zero = IsUtf8-string_bytes k
name_is_text (k ∷ ks) (suc i) = name_is_text ks i

-- bytes that are no text are no name
pub no_text : (ks : List (String Global)) (names : List (List ℕ)) (word : List ℕ)
    → map (λ k. string_bytes k) ks ≡ names → ¬ (IsUtf8 word) → position (bytes_eq word) names ≡ None
no_text ks names word view none = go (position (bytes_eq word) names) refl where
  go : (o : Option ℕ) → position (bytes_eq word) names ≡ o → o ≡ None
  go None e = refl
  go (Some i) e =
      let same : word ≡ get_or names i [] =
      (bytes_eq-Decides word (get_or names i [])).0 (position-Some (bytes_eq word) names i [] e).1 in
      let text : IsUtf8 (get_or names i []) =
      subst (λ (ns : List (List ℕ)). IsUtf8 (get_or ns i [])) view (name_is_text ks i) in
      absurd (none (subst IsUtf8 (sym same) text))
