-- Words and lines that are printed one behind the other.
use Rattle.std.proofs.Common.{◌≡◌, ℕ, List, [], ◌∷◌, ◌++◌, Option, None, get_or, slice_get, refl, codes, ap, ◌∙◌, sym}
use Rattle.std.proofs.Common.{append_assoc}
use Rattle.std.proofs.lemmas.List.{append-nil}
use Rattle.std.proofs.lemmas.List.Concat.{flat_map-append}
use Rattle.std.proofs.lemmas.Option.{get_or_from_slice_get, unwrap_or-slice_get}
use Rattle.bell_codes.specs.Codes.{code_text}
use Rattle.line_plan.specs.Frames.{BoxFields}
use Rattle.line_plan.proofs.Named.{none_here}
use Rattle.line_plan.specs.Plans.{no_box}
use Rattle.locking_table.specs.Words.{spaced}
use Rattle.plan_text.specs.Printing.{name_word, printed, printed_words}

pub spaced-append : (ws vs : List (List ℕ)) → spaced (ws ++ vs) ≡ spaced ws ++ spaced vs
spaced-append [] vs = refl
spaced-append (w ∷ ws) vs =
    ap (λ (b : List ℕ). (32 ∷ w) ++ b) (spaced-append ws vs) ∙ sym (append_assoc (32 ∷ w) (spaced ws) (spaced vs))

-- there is no code, so there is no text
pub no_code : (table : List (List ℕ)) (i : ℕ) → slice_get table i ≡ None → [] ≡ code_text (get_or table i [])
unfolding code_text
no_code table i e = sym (ap code_text (none_here table i [] e))

pub no_place : (boxes : List BoxFields) (i place : ℕ) → slice_get boxes i ≡ None
    → [] ≡ name_word (get_or boxes i no_box).places place
no_place boxes i place e = sym (ap (λ (b : BoxFields). name_word b.places place) (none_here boxes i no_box e))

pub ruleset name_rules = (get_or_from_slice_get, no_code, no_place, none_here)

pub printed-append : (ls ms : List (List (List ℕ))) → printed (ls ++ ms) ≡ printed ls ++ printed ms
printed-append ls ms = flat_map-append printed_words ls ms

pub ruleset line_rules = (append_assoc, append-nil, printed-append, flat_map-append)

pub ruleset print_rules = (append_assoc, append-nil, spaced-append)

-- the parts of a plan's text, one behind the other
pub whole : (old a b c d e : List ℕ) (head classes boxes trains : List (List (List ℕ)))
    → a ≡ old ++ printed head → b ≡ a ++ printed classes → c ≡ b ++ printed boxes → d ≡ c ++ printed trains
    → e ≡ d ++ codes "end\n"
    → e ≡ old ++ printed (head ++ classes ++ boxes ++ trains ++ (codes "end" ∷ []) ∷ [])
whole old a b c d e head classes boxes trains ha hc hb ht he =
    he
    ∙ ap (λ (x : List ℕ). x ++ codes "end\n")
    (ht ∙ ap (λ (x : List ℕ). x ++ printed trains)
    (hb ∙ ap (λ (x : List ℕ). x ++ printed boxes) (hc ∙ ap (λ (x : List ℕ). x ++ printed classes) ha)))
    ∙ simp (append_assoc, printed-append) refl
