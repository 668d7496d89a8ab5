-- How clap goes from the first word to the command of that name, which gets the words behind it.
use Rattle.std.proofs.Common.{ap₂, is_some, option_map, ◌≡◌, ◌∙◌, Bool, true, false, ◌&&◌, List, [], ◌∷◌, ◌++◌, refl}
use Rattle.std.proofs.Common.{sym, ap, Option, Some, append_assoc, append-nil}
use Rattle.std.specs.List.{fold, list_all}
use Rattle.std.specs.Option.{option_map_or, unwrap_or}
use Rattle.std.specs.Prelude.{find, bytes_eq}
use Rattle.clap.specs.Words.{App, Rule, Shape, Text, built, is_simple, subcommand_of, takes}
use Rattle.clap.specs.Simple.{entered, label_of, names_of, rows_at}
use Rattle.clap.specs.Walk.{answers_to, finished, Names, Walk, idle, nothing_held, rows_after, walk, walk_from, walked}
use Rattle.clap.specs.Takes.{default_passes, entered_passes, is_valid, settle_passes, turn_passes, level_passes}
use Rattle.clap.specs.Takes.{walk_passes}
use Rattle.clap.proofs.OnLiterals.{clap_on_literals}
use Rattle.command_words.specs.Commands.{row_of}
use Rattle.command_words.specs.ClapTable.{all_commands, program}
use Rattle.command_words.specs.declared.table.CommandName.{CommandName}
use Rattle.command_words.specs.declared.table.CommandName.TheVariants as names

-- ---- at the top: the first word names the command, and those behind it go to that command

abbrev stopped_at : Text → List Text → Walk
stopped_at name words = record
    { held = nothing_held; waiting = idle; position = 1; is_trailing = false; stopped = Some (name, words) }

stopped_walk : (rules : List Rule) (labels : Names) (name : Text) (front words : List Text)
    → fold (walked rules labels) (stopped_at name front) words ≡ stopped_at name (front ++ words)
unfolding walked
stopped_walk rules labels name front [] = ap (stopped_at name) (sym (append-nil front))
stopped_walk rules labels name front (word ∷ words) =
    stopped_walk rules labels name (front ++ word ∷ []) words
    ∙ ap (stopped_at name) (append_assoc front (word ∷ []) words)

stopped_passes : (shape : Shape) (labels : Names) (name : Text) (front words : List Text)
    → walk_passes shape labels (stopped_at name front) words ≡ true
unfolding walked walk_passes
stopped_passes shape labels name front [] = refl
stopped_passes shape labels name front (word ∷ words) = stopped_passes shape labels name (front ++ word ∷ []) words

-- the program as clap builds it, and the names of its commands
abbrev whole : App
whole = built all_commands

abbrev labels : Names
labels = names_of whole

abbrev start : Walk
start = walk_from nothing_held

-- of the program with all its commands, the words tell what clap finds
pub table_is_simple : is_simple all_commands ≡ true
unfolding clap_on_literals
table_is_simple = refl

module _ (name : Text) (sub : Shape) (first : walked whole.top.rules labels start name ≡ stopped_at name [])
    (turn : turn_passes whole.top labels start name ≡ true)
    (found : find (λ s. answers_to name (label_of s)) whole.subs ≡ Some sub) where
  walk_is : (words : List Text) → walk whole.top.rules labels nothing_held (name ∷ words) ≡ stopped_at name words
  walk_is words = ap (λ w. fold (walked whole.top.rules labels) w words) first
      ∙ stopped_walk whole.top.rules labels name [] words

  passes : (words : List Text) → walk_passes whole.top labels start (name ∷ words) ≡ true
  unfolding walk_passes
  passes words =
      ap₂ (λ a w. a && walk_passes whole.top labels w words) turn first ∙ stopped_passes whole.top labels name [] words

  -- the level of the program passes by what its walk comes to, and the level of the command
  abbrev passes_by : List Text → Bool → Walk → Bool
  passes_by words walks w =
      entered_passes whole w.stopped
      && (walks && (settle_passes whole.top.rules whole.top.args_override_self w.held
      && (list_all default_passes whole.top.rules && is_valid whole.top (finished whole.top.rules w.held)
      (is_some (entered whole w.stopped)))))

  abbrev entered_by : List Text → Option Shape → Bool
  entered_by words o = option_map_or (λ s. level_passes s [] nothing_held words false) o true

  pub enters : (words : List Text) → level_passes sub [] nothing_held words false ≡ true
      → takes all_commands (name ∷ words) ≡ true
  enters words h =
      ap₂ (λ a b. a && b) table_is_simple (ap₂ (passes_by words) (passes words) (walk_is words)
      ∙ ap (λ b. b && is_valid whole.top [] (is_some (entered whole (Some (name, words)))))
      (ap (entered_by words) found ∙ h)
      ∙ ap (λ o. is_valid whole.top [] (is_some (option_map (λ s. rows_at s words) o))) found)

  pub finds : (words : List Text)
      → subcommand_of all_commands (name ∷ words) ≡ Some (sub.name, rows_after sub.rules [] words)
  finds words =
      ap (λ w. entered whole w.stopped) (walk_is words) ∙ ap (option_map (λ s. rows_at s words)) found

-- the command of that name as clap builds it
abbrev pub shape_of : CommandName → Shape
shape_of name = unwrap_or (find (λ s. bytes_eq s.name (row_of name).word) whole.subs) program.top

-- clap takes the words where the command takes those behind its word, and finds what the command finds in them
pub record IsEntered (name : CommandName) : Type 0 where
  pub takes : (words : List Text) → level_passes (shape_of name) [] nothing_held words false ≡ true
      → takes all_commands ((row_of name).word ∷ words) ≡ true
  pub finds : (words : List Text)
      → option_map (λ p. p.1) (subcommand_of all_commands ((row_of name).word ∷ words))
      ≡ Some (rows_after (shape_of name).rules [] words)

by_word : (name : CommandName)
    → walked whole.top.rules labels start (row_of name).word ≡ stopped_at (row_of name).word []
    → turn_passes whole.top labels start (row_of name).word ≡ true
    → find (λ s. answers_to (row_of name).word (label_of s)) whole.subs ≡ Some (shape_of name) → IsEntered name
by_word name first turn found = record {
  takes = enters (row_of name).word (shape_of name) first turn found;
  finds = λ words. ap (option_map (λ p. p.1)) (finds (row_of name).word (shape_of name) first turn found words);
}

-- from the first word clap enters the command of that name, and finds what that command finds in the words behind
pub is_entered : (name : CommandName) → IsEntered name
unfolding clap_on_literals
is_entered names.Run = by_word names.Run refl refl refl
is_entered names.Stress = by_word names.Stress refl refl refl
is_entered names.Check = by_word names.Check refl refl refl
is_entered names.Tables = by_word names.Tables refl refl refl
is_entered names.Chart = by_word names.Chart refl refl refl
is_entered names.Judge = by_word names.Judge refl refl refl
is_entered names.Audit = by_word names.Audit refl refl refl
is_entered names.Upgrade = by_word names.Upgrade refl refl refl
is_entered names.Token = by_word names.Token refl refl refl
is_entered names.Watch = by_word names.Watch refl refl refl
