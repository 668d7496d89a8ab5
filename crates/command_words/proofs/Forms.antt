-- Words that have the form of a command: clap takes them, and what it finds is the command. Others are no command.
use Rattle.std.proofs.Common.{◌<◌, true≢false, ◌+◌, ◌≡◌, ◌∙◌, ℕ, ◌≤◌, Bool, cond, true, false, not, ◌&&◌, eqb, List, []}
use Rattle.std.proofs.Common.{◌∷◌, length, refl, sym, ap, ap₂, subst, arith, drop, Option, Some, None, bytes_eq}
use Rattle.std.specs.Prelude.{String, string_bytes, ◌-◌, ◌==◌, nat_lt, option_and_then, option_map}
use Rattle.std.specs.Global.{Global}
use Rattle.std.specs.List.{find, list_all, slice_index_or}
use Rattle.std.proofs.lemmas.List.Folds.{list_all-map}
use Rattle.std.proofs.lemmas.Bool.{ne_eqb}
use Rattle.std.proofs.lemmas.List.{length-map}
use Rattle.std.proofs.lemmas.Slice.Eq.{bytes_eq-Decides}
use Rattle.clap.specs.Lexer.{usize_max}
use Rattle.clap.specs.Words.{Text, subcommand_of, takes}
use Rattle.clap.proofs.OnLiterals.{clap_on_literals}
use Rattle.command_words.specs.Commands.{all_names, bytes_of, command_in, command_of, form_named, form_of}
use Rattle.command_words.specs.Commands.{is_plain_word, may_have, name_of, row_of}
use Rattle.command_words.specs.ClapTable.{all_commands}
use Rattle.command_words.specs.ClapReads.{command_read}
use Rattle.command_words.specs.declared.table.CommandName.{CommandName}
use Rattle.command_words.specs.declared.table.CommandName.TheVariants as names
use Rattle.command_words.proofs.Enters.{is_entered}
use Rattle.command_words.proofs.ScriptWords.{Reads, both, no_hyphen, run_reads, watch_reads}

-- ---- the words behind a command's own

other_count : (m n : ℕ) → n < m → (m == n) ≡ true → ⊥
other_count m n less same = true≢false (sym same ∙ ne_eqb m n (λ e. omega arith))

empty_word : (b : ℕ) → not (eqb b 45) && false ≡ true → ⊥
empty_word b plain = true≢false (sym (both (not (eqb b 45)) false plain).1)

run_words : (words : List Text) → list_all is_plain_word words ≡ true → nat_lt 1 (length words) ≡ true
    → length words ≤ usize_max + 1 → Reads names.Run words
run_words [] plain count fits = absurd cc
run_words (plan ∷ []) plain count fits = absurd cc
run_words ([] ∷ script ∷ words) plain count fits = absurd cc
run_words ((b ∷ bs) ∷ [] ∷ words) plain count fits = absurd (empty_word b plain)
run_words ((b ∷ bs) ∷ (c ∷ cs) ∷ words) plain count fits =
    let e = both (not (eqb b 45)) _ plain in
    let f = both (not (eqb c 45)) (list_all is_plain_word words) e.1 in
    run_reads b bs c cs (no_hyphen b e.0) (no_hyphen c f.0) words f.1 (omega arith)

watch_words : (words : List Text) → list_all is_plain_word words ≡ true → nat_lt 2 (length words) ≡ true
    → length words ≤ usize_max + 1 → Reads names.Watch words
watch_words [] plain count fits = absurd cc
watch_words (rounds ∷ []) plain count fits = absurd cc
watch_words (rounds ∷ plan ∷ []) plain count fits = absurd cc
watch_words ([] ∷ plan ∷ script ∷ words) plain count fits = absurd cc
watch_words ((d ∷ ds) ∷ [] ∷ script ∷ words) plain count fits = absurd (empty_word d plain)
watch_words ((d ∷ ds) ∷ (b ∷ bs) ∷ [] ∷ words) plain count fits =
    absurd (empty_word b (both (not (eqb d 45)) _ plain).1)
watch_words ((d ∷ ds) ∷ (b ∷ bs) ∷ (c ∷ cs) ∷ words) plain count fits =
    let e = both (not (eqb d 45)) _ plain in
    let f = both (not (eqb b 45)) _ e.1 in
    let g = both (not (eqb c 45)) (list_all is_plain_word words) f.1 in
    watch_reads d ds b bs c cs (no_hyphen d e.0) (no_hyphen b f.0) (no_hyphen c g.0) words g.1 (omega arith)

module _ (name : CommandName) where
  one_word : ((b : ℕ) (bs : Text) → eqb b 45 ≡ false → Reads name ((b ∷ bs) ∷ [])) → (words : List Text)
      → list_all is_plain_word words ≡ true → (length words == 1) ≡ true → Reads name words
  one_word each [] plain count = absurd cc
  one_word each ([] ∷ []) plain count = absurd cc
  one_word each ((b ∷ bs) ∷ []) plain count = each b bs (no_hyphen b (both (not (eqb b 45)) true plain).0)
  one_word each (word ∷ more ∷ words) plain count =
      absurd (other_count (length (word ∷ more ∷ words)) 1 (omega arith) count)

  two_words : ((b : ℕ) (bs : Text) (c : ℕ) (cs : Text) → eqb b 45 ≡ false → eqb c 45 ≡ false
      → Reads name ((b ∷ bs) ∷ (c ∷ cs) ∷ [])) → (words : List Text) → list_all is_plain_word words ≡ true
      → (length words == 2) ≡ true → Reads name words
  two_words each [] plain count = absurd cc
  two_words each (word ∷ []) plain count = absurd cc
  two_words each ([] ∷ word ∷ []) plain count = absurd cc
  two_words each ((b ∷ bs) ∷ [] ∷ []) plain count = absurd (empty_word b plain)
  two_words each ((b ∷ bs) ∷ (c ∷ cs) ∷ []) plain count =
      let e = both (not (eqb b 45)) _ plain in
      each b bs c cs (no_hyphen b e.0) (no_hyphen c (both (not (eqb c 45)) true e.1).0)
  two_words each (word ∷ other ∷ more ∷ words) plain count =
      absurd (other_count (length (word ∷ other ∷ more ∷ words)) 2 (omega arith) count)

-- plain words, as many as a command has, are taken and read
are_read : (name : CommandName) (words : List Text) → list_all is_plain_word words ≡ true
    → may_have name (length words) ≡ true → length words ≤ usize_max + 1 → Reads name words
unfolding clap_on_literals
are_read names.Run words plain count fits = run_words words plain count fits
are_read names.Watch words plain count fits = watch_words words plain count fits
are_read names.Stress words plain count fits =
    one_word names.Stress (λ b bs h. record { takes = simp h; reads = simp h }) words plain count
are_read names.Check words plain count fits =
    one_word names.Check (λ b bs h. record { takes = simp h; reads = simp h }) words plain count
are_read names.Upgrade words plain count fits =
    one_word names.Upgrade (λ b bs h. record { takes = simp h; reads = simp h }) words plain count
are_read names.Token words plain count fits =
    one_word names.Token (λ b bs h. record { takes = simp h; reads = simp h }) words plain count
are_read names.Tables words plain count fits =
    two_words names.Tables (λ b bs c cs h k. record { takes = simp (h, k); reads = simp (h, k) }) words plain count
are_read names.Chart words plain count fits =
    two_words names.Chart (λ b bs c cs h k. record { takes = simp (h, k); reads = simp (h, k) }) words plain count
are_read names.Judge words plain count fits =
    two_words names.Judge (λ b bs c cs h k. record { takes = simp (h, k); reads = simp (h, k) }) words plain count
are_read names.Audit words plain count fits =
    two_words names.Audit (λ b bs c cs h k. record { takes = simp (h, k); reads = simp (h, k) }) words plain count

-- ---- words that have a form

-- a word that is found is that of its command
found_word : (word : Text) (rest : List CommandName) (name : CommandName)
    → find (λ n. bytes_eq word (row_of n).word) rest ≡ Some name → word ≡ (row_of name).word
found_word word [] name e = absurd cc
found_word word (n ∷ more) name e = go (bytes_eq word (row_of n).word) refl (found_word word more name) e where
  go : (same : Bool) → bytes_eq word (row_of n).word ≡ same
      → (find (λ m. bytes_eq word (row_of m).word) more ≡ Some name → word ≡ (row_of name).word)
      → cond same (Some n) (find (λ m. bytes_eq word (row_of m).word) more) ≡ Some name → word ≡ (row_of name).word
  go true is behind f =
      let first : n ≡ name = cc in
      (bytes_eq-Decides word (row_of n).word).0 is ∙ ap (λ (m : CommandName). (row_of m).word) first
  go false is behind f = behind f

-- words with the form of this command: its own, and plain words behind it, as many as it has
record HasForm (name : CommandName) (words : List Text) : Type 0 where
  behind : List Text
  is : words ≡ (row_of name).word ∷ behind
  plain : list_all is_plain_word behind ≡ true
  count : may_have name (length behind) ≡ true

has_form : (words : List Text) (name : CommandName) → form_of words ≡ Some name → HasForm name words
has_form [] name e = absurd cc
has_form (first ∷ words) name e = go (list_all is_plain_word (first ∷ words)) refl e where
  counted : list_all is_plain_word words ≡ true → (found : CommandName) (fits : Bool) → first ≡ (row_of found).word
      → may_have found (length words) ≡ fits → cond fits (Some found) None ≡ Some name → HasForm name (first ∷ words)
  counted plain found true is count f =
      let same : found ≡ name = cc in
      subst (λ (n : CommandName). HasForm n (first ∷ words)) same
      (record { behind = words; is = ap (λ (w : Text). w ∷ words) is; plain = plain; count = count })
  counted plain found false is count f = absurd cc

  named : list_all is_plain_word words ≡ true → (found : Option CommandName) → name_of first ≡ found
      → option_and_then (λ n. cond (may_have n (length words)) (Some n) None) found ≡ Some name
      → HasForm name (first ∷ words)
  named plain None is f = absurd cc
  named plain (Some found) is f =
      counted plain found (may_have found (length words)) (found_word first all_names found is) refl f

  go : (plain : Bool) → list_all is_plain_word (first ∷ words) ≡ plain
      → cond plain (form_named first (length words)) None ≡ Some name → HasForm name (first ∷ words)
  go true is f =
      named (both (is_plain_word first) (list_all is_plain_word words) is).1 (name_of first) refl f
  go false is f = absurd cc

-- clap takes the words, and what is read of what it finds in them is their command
pub record AreRead (name : CommandName) (words : List Text) : Type 0 where
  pub taken : takes all_commands words ≡ true
  pub found : option_and_then (command_read name) (option_map (λ p. p.1) (subcommand_of all_commands words))
      ≡ command_of words

form_reads : (name : CommandName) (words : List Text) → form_of words ≡ Some name → length words ≤ usize_max
    → AreRead name words
unfolding command_of
form_reads name words e fits =
    let form = has_form words name e in
    let entered = is_entered name in
    let count : length words ≡ length ((row_of name).word ∷ form.behind) = ap (λ (ws : List Text). length ws) form.is in
    let reads = are_read name form.behind form.plain form.count (omega arith) in
    record {
      taken = ap (takes all_commands) form.is ∙ entered.takes form.behind reads.takes;
      found = ap (λ ws. option_and_then (command_read name) (option_map (λ p. p.1) (subcommand_of all_commands ws)))
          form.is
          ∙ ap (option_and_then (command_read name)) (entered.finds form.behind) ∙ reads.reads
          ∙ sym (ap (option_and_then (λ n. command_in n (drop 1 words))) e
          ∙ ap (λ (ws : List Text). command_in name (drop 1 ws)) form.is);
    }

-- clap takes words that have the form of a command, and what it finds in them is that command
pub words_read : (words : List (String Global)) (name : CommandName) → form_of (bytes_of words) ≡ Some name
    → length words ≤ usize_max → AreRead name (bytes_of words)
words_read words name form fits = form_reads name (bytes_of words) form (rw length-map fits)

-- ---- the test of the form

-- the first word and the number of those behind it tell the form of the words, where all are plain
pub form_is : (words : List (String Global)) (first : String Global) → 0 < length words
    → first ≡ slice_index_or words 0 first
    → cond (list_all (λ word. is_plain_word (string_bytes word)) words) (form_named (string_bytes first)
    (length words - 1)) None ≡ form_of (bytes_of words)
form_is [] first some at = absurd (omega arith)
form_is (word ∷ words) first some at =
    let count : length (word ∷ words) - 1
    ≡ length (bytes_of words) = omega (arith, length-map words (λ w. string_bytes w)) in
    ap₂ (λ p n. cond p (form_named (string_bytes first) n) None)
    (sym (list_all-map is_plain_word (λ w. string_bytes w) (word ∷ words))) count
    ∙ ap (λ w. cond (list_all is_plain_word (bytes_of (word ∷ words))) (form_named (string_bytes w)
    (length (bytes_of words))) None) at
