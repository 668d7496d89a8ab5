-- The answers have no float and no object within them.
use Rattle.std.proofs.Common.{◌≡◌, ℕ, ◌<◌, ◌^◌, List, [], ◌++◌, Option, Some, refl, sym, ap, ◌∙◌, arith}
use Rattle.std.proofs.Common.{append_assoc, append-nil}
use Rattle.std.specs.Prelude.{codes, decimal, option_and_then}
use Rattle.json.specs.Json as json
use Rattle.json.specs.Lex.{tokens}
use Rattle.json.specs.Print.{ArePrintable}
use Rattle.json.specs.Token.{Token}
use Rattle.json.specs.Tree.{json_tokens}
use Rattle.json.proofs.OnLiterals.{json_on_literals}
use Rattle.json.proofs.Printed.Decimals.{IsNumber-decimal}
use Rattle.json.proofs.Printed.Tokens.{tokens-print}
use Rattle.json.proofs.Printed.Trees.{ArePrintable-json_tokens, value-json_tokens}
use Rattle.serde_json.specs.Data.{Data}
use Rattle.serde_json.specs.Read.{max_depth, of_json}
use Rattle.serde_json.specs.Written.{compact_text, outline}
use Rattle.serde_json.proofs.Numbers.{number_of-decimal}
use Rattle.serde_json.proofs.Texts.{print-outline}
use Rattle.json_objects.specs.Texts.{IsPlain, IsTextOf, most_levels}
use Rattle.json_objects.proofs.Plain.{member_plain, no_members_plain, number_if_plain, number_plain, object_plain}
use Rattle.json_objects.proofs.Plain.{text_plain}
use Rattle.line_requests.specs.Answers.{count_data, fault_data}

-- the object of a fault has a text that is read back
pub fault_plain : (word : List ℕ) (line : Option ℕ) (said : List ℕ) → IsPlain most_levels (fault_data word line said)
fault_plain word line said =
    object_plain 126 _
    (member_plain 126 _ _ _ (text_plain 126 word)
    (number_if_plain 126 _ line _ (member_plain 126 _ _ _ (text_plain 126 said) (no_members_plain 126))))

-- so has that of a count
pub count_plain : (count : ℕ) → IsPlain most_levels (count_data count)
count_plain count = object_plain 126 _ (member_plain 126 _ _ _ (number_plain 126 count) (no_members_plain 126))

-- ---- the text of a count, byte by byte

count_compact : (count : ℕ)
    → codes "{\"entries\":" ++ decimal count ++ codes "}" ≡ compact_text (count_data count)
unfolding json_on_literals
count_compact count = refl

abbrev count_outline : ℕ → json.Json
count_outline count = outline (count_data count)

count_read : (count : ℕ) → count < 2 ^ 64 → of_json (count_outline count) ≡ Some (count_data count)
count_read count few = rw (number_of-decimal count few) refl

count_printable : (count : ℕ) → count < 2 ^ 64 → ArePrintable (json_tokens (count_outline count))
count_printable count few = ArePrintable-json_tokens (count_outline count) (IsNumber-decimal count few, tt)

-- the value that a document is, by what was read of it
abbrev whole : Option (json.Json × List Token) → Option Data
whole read = option_and_then of_json (option_and_then (λ p. json.if_last p.0 p.1) read)

-- a count's text is these bytes
pub count_spelled : (count : ℕ) (text : List ℕ) → count < 2 ^ 64
    → text ≡ (codes "{\"entries\":" ++ decimal count) ++ codes "}" → IsTextOf (count_data count) text
count_spelled count text few is =
    let compact : text ≡ compact_text (count_data count) =
    is ∙ append_assoc (codes "{\"entries\":") (decimal count) (codes "}") ∙ count_compact count in
    record {
      compact = compact;
      reads =
          ap whole
          (ap (json.value max_depth)
          (ap tokens (compact ∙ sym (print-outline (count_data count)))
          ∙ tokens-print (json_tokens (count_outline count)) (count_printable count few)
          ∙ sym (append-nil (json_tokens (count_outline count))))
          ∙ value-json_tokens (count_outline count) max_depth [] (omega arith))
          ∙ count_read count few;
    }
