-- No line of a journal is skipped.
use Rattle.std.proofs.Common.{◌≡◌, ℕ, Bool, true, false, not, cond, ltb, List, length, Result, Ok, Err, None}
use Rattle.std.specs.List.{list_all, list_any}
use Rattle.rail_text.specs.Forms.{is_empty_word, is_printable, form_of, formed_words, words_unless_skipped}
use Rattle.rail_text.specs.Gives.{◌>>=◌}
use Rattle.rail_text.specs.Lines.{Line, words_of}
use Rattle.rail_text.specs.declared.cause.Cause.{Cause}
use Rattle.rail_text.specs.declared.cause.Cause.TheVariants as causes
use Rattle.rail_text.specs.declared.forms.LineForm.{LineForm}
use Rattle.rail_text.specs.declared.forms.LineForm.TheVariants as forms

-- the form of a line by what is tested of it, in turn
abbrev form_by : Bool → Bool → Bool → Bool → Bool → Result LineForm Cause
form_by e p l s g =
    cond (not e) (Err causes.Cut)
    (cond (not p) (Err causes.BadByte)
    (cond l (Err causes.LongLine) (cond s (Ok forms.Skipped) (cond g (Err causes.Spacing) (Ok forms.Words)))))

never : (e p l g : Bool) (words : List (List ℕ)) → form_by e p l false g >>= words_unless_skipped words ≡ Ok None → ⊥
never false p l g words h = absurd cc
never true false l g words h = absurd cc
never true true true g words h = absurd cc
never true true false true words h = absurd cc
never true true false false words h = absurd cc

-- no line of a journal is skipped
pub none_skipped : (line : Line) → formed_words false line ≡ Ok None → ⊥
unfolding form_of formed_words
none_skipped line h =
    never line.ended (list_all is_printable line.text) (ltb 200 (length line.text))
    (list_any is_empty_word (words_of line.text)) (words_of line.text) h
