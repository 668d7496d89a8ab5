-- The colours of a terminal.
use Rattle.std.specs.Prelude.{ℕ, Bool, true, false, List, [], ◌∷◌, ◌++◌, codes}

-- what is refused is red
abbrev pub red : List ℕ
red = codes "[31m"

-- what he notices is cyan
abbrev pub cyan : List ℕ
cyan = codes "[36m"

-- a colour ends
abbrev pub no_colour : List ℕ
no_colour = codes "[0m"

-- a colour begins or ends, where colours are wanted
abbrev pub tone_text : Bool → List ℕ → List ℕ
tone_text false tone = []
tone_text true tone = 27 ∷ tone

-- a text in a colour, where colours are wanted
abbrev pub in_tone : Bool → List ℕ → List ℕ → List ℕ
in_tone wanted tone text = tone_text wanted tone ++ text ++ tone_text wanted no_colour
