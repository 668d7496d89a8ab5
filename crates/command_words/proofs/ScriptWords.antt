-- What clap makes of the words behind `run` and `watch`: the plan, of a watch behind its rounds, and then scripts.
use Rattle.std.proofs.Common.{le-leb, ◌≡◌, ◌∙◌, ℕ, ◌≤◌, ◌+◌, Bool, true, false, not, ◌&&◌, eqb, List, [], ◌∷◌, ◌++◌}
use Rattle.std.proofs.Common.{length, refl, sym, ap, ap₂, arith, codes, Option, Some, None, append_assoc, append-nil}
use Rattle.std.specs.Prelude.{nat_le, option_and_then, option_map}
use Rattle.std.specs.List.{fold, list_all}
use Rattle.clap.specs.Lexer.{usize_max}
use Rattle.clap.specs.Words.{Row, Text, reading_of}
use Rattle.clap.specs.Walk.{Walk, finished, nothing_held, positional, rows_after, walk, walk_from, walked}
use Rattle.clap.specs.Takes.{default_passes, is_valid, level_passes, settle_passes, walk_passes}
use Rattle.clap.specs.declared.builder.value_parser.ValueParser.TheVariants as parsers
use Rattle.clap.specs.declared.parser.matches.ValueSource.TheVariants.{CommandLine}
use Rattle.clap.proofs.OnLiterals.{clap_on_literals}
use Rattle.command_words.specs.Commands.{Command, command_in, count_of, is_plain_word, most_rounds}
use Rattle.command_words.specs.ClapReads.{command_read}
use Rattle.command_words.specs.declared.table.CommandName.{CommandName}
use Rattle.command_words.specs.declared.table.CommandName.TheVariants as names
use Rattle.command_words.proofs.Enters.{shape_of}

-- the command takes the words behind its own, and what is read of what clap finds in them is what it makes of them
pub record Reads (name : CommandName) (words : List Text) : Type 0 where
  pub takes : level_passes (shape_of name) [] nothing_held words false ≡ true
  pub reads : command_read name (rows_after (shape_of name).rules [] words) ≡ command_in name words

-- of two tests that hold together each holds
pub both : (a b : Bool) → a && b ≡ true → (a ≡ true) × (b ≡ true)
both true b e = (refl, e)
both false b e = absurd cc

-- a byte of which it is denied that it is a hyphen is none
pub no_hyphen : (b : ℕ) → not (eqb b 45) ≡ true → eqb b 45 ≡ false
no_hyphen b e = go (eqb b 45) e
  where
    go : (x : Bool) → not x ≡ true → x ≡ false
    go true h = absurd cc
    go false h = refl

all_pass : (texts : List Text) → list_all (λ text. true) texts ≡ true
all_pass [] = refl
all_pass (text ∷ texts) = all_pass texts

-- what is read of an argument that takes one word
abbrev value_row : Text → Text → Row
value_row id word = record {
  id = id;
  values = word ∷ [];
  count = None;
  source = Some CommandLine;
  reading = reading_of
      parsers.String;
}

-- these values are read, and these scripts, and more scripts may come
abbrev among_scripts : List Row → List Text → Walk
among_scripts rows scripts = record {
  held = record { rows = rows; pending = Some (codes "script", scripts); skip = 0 };
  waiting = positional;
  position = length rows + 1;
  is_trailing = false;
  stopped = None;
}

-- ---- the scripts, one by one

module _ (name : CommandName) (among : List Text → Walk)
    (one_walked : (scripts : List Text) (b : ℕ) (bs : Text) → eqb b 45 ≡ false
    → walked (shape_of name).rules [] (among scripts) (b ∷ bs) ≡ among (scripts ++ (b ∷ bs) ∷ []))
    (one_passes : (scripts words : List Text) (b : ℕ) (bs : Text) → eqb b 45 ≡ false
    → walk_passes (shape_of name) [] (among (scripts ++ (b ∷ bs) ∷ [])) words ≡ true
    → walk_passes (shape_of name) [] (among scripts) ((b ∷ bs) ∷ words) ≡ true) where
  scripts_walked : (scripts words : List Text) → list_all is_plain_word words ≡ true
      → fold (walked (shape_of name).rules []) (among scripts) words ≡ among (scripts ++ words)
  scripts_walked scripts [] h = ap among (sym (append-nil scripts))
  scripts_walked scripts ([] ∷ words) h = absurd cc
  scripts_walked scripts ((b ∷ bs) ∷ words) h =
      let e = both (not (eqb b 45)) (list_all is_plain_word words) h in
      ap (λ w. fold (walked (shape_of name).rules []) w words) (one_walked scripts b bs (no_hyphen b e.0))
      ∙ scripts_walked (scripts ++ (b ∷ bs) ∷ []) words e.1 ∙ ap among (append_assoc scripts ((b ∷ bs) ∷ []) words)

  scripts_pass : (scripts words : List Text) → list_all is_plain_word words ≡ true
      → walk_passes (shape_of name) [] (among scripts) words ≡ true
  unfolding walk_passes
  scripts_pass scripts [] h = refl
  scripts_pass scripts ([] ∷ words) h = absurd cc
  scripts_pass scripts ((b ∷ bs) ∷ words) h =
      let e = both (not (eqb b 45)) (list_all is_plain_word words) h in
      one_passes scripts words b bs (no_hyphen b e.0) (scripts_pass (scripts ++ (b ∷ bs) ∷ []) words e.1)

few : (scripts : List Text) → length scripts ≤ usize_max → nat_le (length scripts) usize_max ≡ true
few scripts fits = le-leb _ _ fits

some : (script : Text) (scripts : List Text) → nat_le 1 (length (script ∷ scripts)) ≡ true
some script scripts = le-leb 1 (length (script ∷ scripts)) (omega arith)

-- a command takes words by what its walk over them comes to
level_by : (name : CommandName) (words : List Text) (end : Walk)
    → walk_passes (shape_of name) [] (walk_from nothing_held) words ≡ true
    → walk (shape_of name).rules [] nothing_held words ≡ end
    → settle_passes (shape_of name).rules (shape_of name).args_override_self end.held
    && (list_all default_passes (shape_of name).rules
    && is_valid (shape_of name) (finished (shape_of name).rules end.held) false) ≡ true
    → level_passes (shape_of name) [] nothing_held words false ≡ true
level_by name words end passes walk_is settles =
    ap₂ (λ walks w. walks && (settle_passes (shape_of name).rules (shape_of name).args_override_self w.held
    && (list_all default_passes (shape_of name).rules
    && is_valid (shape_of name) (finished (shape_of name).rules w.held) false))) passes walk_is ∙ settles

-- ---- `run`: from the plan and the first script on

module _ (b : ℕ) (bs : Text) (c : ℕ) (cs : Text) (h : eqb b 45 ≡ false) (k : eqb c 45 ≡ false) (words : List Text)
    (plain : list_all is_plain_word words ≡ true) where
  abbrev run_plan : Text
  run_plan = b ∷ bs

  abbrev run_scripts : List Text
  run_scripts = (c ∷ cs) ∷ words

  abbrev run_among : List Text → Walk
  run_among = among_scripts (value_row (codes "plan") run_plan ∷ [])

  run_one : (scripts : List Text) (d : ℕ) (ds : Text) → eqb d 45 ≡ false
      → walked (shape_of names.Run).rules [] (run_among scripts) (d ∷ ds) ≡ run_among (scripts ++ (d ∷ ds) ∷ [])
  unfolding clap_on_literals
  run_one scripts d ds g = simp g

  run_one_passes : (scripts more : List Text) (d : ℕ) (ds : Text) → eqb d 45 ≡ false
      → walk_passes (shape_of names.Run) [] (run_among (scripts ++ (d ∷ ds) ∷ [])) more ≡ true
      → walk_passes (shape_of names.Run) [] (run_among scripts) ((d ∷ ds) ∷ more) ≡ true
  unfolding clap_on_literals
  run_one_passes scripts more d ds g rest = simp (g, rest)

  run_starts : walked (shape_of names.Run).rules []
      (walked (shape_of names.Run).rules [] (walk_from nothing_held) run_plan) (c ∷ cs)
      ≡ run_among ((c ∷ cs) ∷ [])
  unfolding clap_on_literals
  run_starts = simp (h, k)

  run_walk : walk (shape_of names.Run).rules [] nothing_held (run_plan ∷ run_scripts) ≡ run_among run_scripts
  run_walk = ap (λ w. fold (walked (shape_of names.Run).rules []) w words) run_starts
      ∙ scripts_walked names.Run run_among run_one run_one_passes ((c ∷ cs) ∷ []) words plain

  run_passes : walk_passes (shape_of names.Run) [] (walk_from nothing_held) (run_plan ∷ run_scripts) ≡ true
  unfolding clap_on_literals
  run_passes = simp (h, k, scripts_pass names.Run run_among run_one run_one_passes ((c ∷ cs) ∷ []) words plain)

  pub run_reads : length run_scripts ≤ usize_max → Reads names.Run (run_plan ∷ run_scripts)
  run_reads fits = record {
    takes = level_by names.Run (run_plan ∷ run_scripts) (run_among run_scripts) run_passes run_walk
        (simp (some (c ∷ cs) words, few run_scripts fits, all_pass));
    reads = ap (λ w. command_read names.Run (finished (shape_of names.Run).rules w.held)) run_walk;
  }

-- ---- `watch`: from the rounds, the plan and the first script on

module _ (d : ℕ) (ds : Text) (b : ℕ) (bs : Text) (c : ℕ) (cs : Text) (g : eqb d 45 ≡ false) (h : eqb b 45 ≡ false)
    (k : eqb c 45 ≡ false) (words : List Text) (plain : list_all is_plain_word words ≡ true) where
  abbrev rounds : Text
  rounds = d ∷ ds

  abbrev plan : Text
  plan = b ∷ bs

  abbrev scripts : List Text
  scripts = (c ∷ cs) ∷ words

  abbrev among : List Text → Walk
  among = among_scripts (value_row (codes "rounds") rounds ∷ value_row (codes "plan") plan ∷ [])

  watch_one : (front : List Text) (e : ℕ) (es : Text) → eqb e 45 ≡ false
      → walked (shape_of names.Watch).rules [] (among front) (e ∷ es) ≡ among (front ++ (e ∷ es) ∷ [])
  unfolding clap_on_literals
  watch_one front e es f = simp f

  watch_one_passes : (front more : List Text) (e : ℕ) (es : Text) → eqb e 45 ≡ false
      → walk_passes (shape_of names.Watch) [] (among (front ++ (e ∷ es) ∷ [])) more ≡ true
      → walk_passes (shape_of names.Watch) [] (among front) ((e ∷ es) ∷ more) ≡ true
  unfolding clap_on_literals
  watch_one_passes front more e es f rest = simp (f, rest)

  watch_starts : walked (shape_of names.Watch).rules [] (walked (shape_of names.Watch).rules []
      (walked (shape_of names.Watch).rules [] (walk_from nothing_held) rounds) plan) (c ∷ cs)
      ≡ among ((c ∷ cs) ∷ [])
  unfolding clap_on_literals
  watch_starts = simp (g, h, k)

  watch_walk : walk (shape_of names.Watch).rules [] nothing_held (rounds ∷ plan ∷ scripts) ≡ among scripts
  watch_walk = ap (λ w. fold (walked (shape_of names.Watch).rules []) w words) watch_starts
      ∙ scripts_walked names.Watch among watch_one watch_one_passes ((c ∷ cs) ∷ []) words plain

  watch_passes : walk_passes (shape_of names.Watch) [] (walk_from nothing_held) (rounds ∷ plan ∷ scripts) ≡ true
  unfolding clap_on_literals
  watch_passes =
      simp (g, h, k, scripts_pass names.Watch among watch_one watch_one_passes ((c ∷ cs) ∷ []) words plain)

  watch_read : command_read names.Watch (finished (shape_of names.Watch).rules (among scripts).held)
      ≡ command_in names.Watch (rounds ∷ plan ∷ scripts)
  unfolding clap_on_literals
  watch_read = go (count_of most_rounds rounds)
    where
      go : (n : Option ℕ)
          → option_and_then (λ r. Some (Command.Watch r plan scripts)) n
          ≡ option_map (λ r. Command.Watch r plan scripts) n
      go (Some n) = refl
      go None = refl

  pub watch_reads : length scripts ≤ usize_max → Reads names.Watch (rounds ∷ plan ∷ scripts)
  watch_reads fits = record {
    takes = level_by names.Watch (rounds ∷ plan ∷ scripts) (among scripts) watch_passes watch_walk
        (simp (some (c ∷ cs) words, few scripts fits, all_pass));
    reads = ap (λ w. command_read names.Watch (finished (shape_of names.Watch).rules w.held)) watch_walk ∙ watch_read;
  }
