-- Lines that are read one after another, none of them with a fault.
use Rattle.std.proofs.Common.{◌≡◌, List, [], ◌∷◌, ◌++◌, Result, Ok, Err, refl, sym, ap, ◌∙◌, append_assoc}
use Rattle.rail_text.specs.Gives.{◌>>=◌}
use Rattle.rail_text.specs.Lines.{Line}
use Rattle.rail_text.specs.Texts.{Reads, IsGoodLine, IsGoodUpTo, IsReadTo, line_onto, more_onto}
use Rattle.rail_text.specs.declared.cause.Cause.{Cause}

-- before the first line none is read
pub none_read : {D : Type 0} (read : Reads D) (start : D) (lines left : List Line) → lines ≡ left
    → IsReadTo read start lines start left
unfolding more_onto
none_read read start lines left e = record { front = []; whole = e; good = refl }

read_alone : {D : Type 0} (r : Result D Cause) → (r >>= (λ next. Ok next)) ≡ r
read_alone (Ok draft) = refl
read_alone (Err cause) = refl

read_behind : {D : Type 0} (r : Result D Cause) (whole front last : D → Result D Cause)
    → ((next : D) → whole next ≡ (front next >>= last)) → (r >>= whole) ≡ ((r >>= front) >>= last)
read_behind (Ok next) whole front last h = h next
read_behind (Err cause) whole front last h = refl

-- a line behind others is read onto what they make
more_onto-append : {D : Type 0} (read : Reads D) (front : List Line) (line : Line) (start : D)
    → more_onto read start (front ++ line ∷ []) ≡ (more_onto read start front >>= (λ draft. line_onto read draft line))
unfolding more_onto
more_onto-append read [] line start = read_alone (line_onto read start line)
more_onto-append read (first ∷ front) line start =
    read_behind (line_onto read start first) _ _ _ (λ next. more_onto-append read front line next)

-- a line more is read
pub next_read : {D : Type 0} (read : Reads D) (start draft next : D) (lines left later : List Line) (line : Line)
    → IsReadTo read start lines draft left → left ≡ line ∷ later → line_onto read draft line ≡ Ok next
    → IsReadTo read start lines next later
next_read {D} read start draft next lines left later line h split e = record {
  front = h.front ++ line ∷ [];
  whole = h.whole ∙ ap (λ (ls : List Line). h.front ++ ls) split ∙ sym (append_assoc h.front (line ∷ []) later);
  good = more_onto-append read h.front line start
      ∙ ap (λ (r : Result D Cause). r >>= (λ draft. line_onto read draft line)) h.good ∙ e;
}

-- the first of the lines that are left has no fault
pub good_next : {D : Type 0} (read : Reads D) (start draft : D) (lines left later : List Line) (line : Line)
    → IsReadTo read start lines draft left → left ≡ line ∷ later → IsGoodLine read draft line
    → IsGoodUpTo read start lines draft
good_next read start draft lines left later line h split good = record {
  line = line;
  later = later;
  before = record { front = h.front; whole = h.whole ∙ ap (λ (ls : List Line). h.front ++ ls) split; good = h.good };
  good = good;
}
