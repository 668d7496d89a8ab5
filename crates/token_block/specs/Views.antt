-- What a seat at a single line's words knows: the view of the first seat, and how views change.
use Rattle.std.specs.Prelude.{ℕ, ◌+◌, ◌==◌, nat_le, Bool, true, false, if◌then◌else◌, List, [], ◌∷◌, length}
use Rattle.std.specs.Prelude.{Option, Some, None}
use Rattle.token_law.specs.declared.calls.TokenEntry.{TokenEntry}
use Rattle.token_block.specs.declared.view.Tokens.{Tokens}
use Rattle.token_block.specs.declared.view.TokenView.{TokenView}

-- ---- views

-- the first seat knows the tokens at the opening, and has seen nothing
abbrev pub first_view : Tokens → TokenView
first_view tokens =
    record { opened = Some tokens; post = None; seen = []; hand = None; came = None; drawn = None; olds = None }

-- what a join leaves of the seat that was taken in: nothing
abbrev pub spent_view : TokenView
spent_view = record { opened = None; post = None; seen = []; hand = None; came = None; drawn = None; olds = None }

-- a second seat that has seen as much, holds no post, and has drawn none
abbrev pub twin_view : TokenView → TokenView
twin_view v =
    record { opened = v.opened; post = None; seen = v.seen; hand = None; came = None; drawn = None; olds = None }

-- the view of a seat that held no post, once it has drawn that of box b, where b posts were drawn before
abbrev pub with_post : TokenView → ℕ → TokenView
with_post v b = record v { post = Some b; drawn = Some b }

-- the view of a seat whose draw found so many posts drawn, and not the number of its box
abbrev pub missed : TokenView → ℕ → TokenView
missed v found = record v { drawn = Some found }

-- the view once this history was seen, with these two marks
abbrev pub seeing : TokenView → List TokenEntry → Option ℕ → Option ℕ → TokenView
seeing v seen hand came = record v { seen = seen; hand = hand; came = came; olds = None }

-- ---- two views in one

-- the longer of two histories
abbrev pub longer : List TokenEntry → List TokenEntry → List TokenEntry
longer xs ys = if nat_le (length xs) (length ys) then ys else xs

-- two views in one, between the two looks of a join: what the one that knew more had seen, and the rest of the first
abbrev pub both_views : TokenView → TokenView → TokenView
both_views v w =
    record {
      opened = v.opened;
      post = v.post;
      seen = longer v.seen w.seen;
      hand = v.hand;
      came = v.came;
      drawn = v.drawn;
      olds = Some (record { mine = v.seen; theirs = w.seen });
    }

-- the view once the second look of a join has told what each of the two had seen
abbrev pub settled : TokenView → TokenView
settled v = record v { olds = None }

-- ---- posts

-- one where the test says yes
abbrev pub one_if : Bool → ℕ
one_if true = 1
one_if false = 0

-- 1 where a seat holds the post of box p
abbrev pub held : ℕ → Option ℕ → ℕ
held p None = 0
held p (Some b) = one_if (b == p)

-- how many seats do, of all views
abbrev pub holders : ℕ → List TokenView → ℕ
holders p [] = 0
holders p (v ∷ vs) = held p v.post + holders p vs
