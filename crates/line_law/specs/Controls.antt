-- The control of an incoming line: Welwyn control on an absolute line, a count on a permissive one; and its release.
use Rattle.std.specs.Prelude.{ℕ, ◌+◌, ◌-◌, Option, Some, None, Bool, true, false, nat_lt}
use Rattle.block_words.specs.declared.Position.{Position}
use Rattle.block_words.specs.declared.Position.TheVariants as shows
use Rattle.block_words.specs.declared.Way.{Way}
use Rattle.block_words.specs.declared.WelwynState.{WelwynState}
use Rattle.block_words.specs.declared.WelwynState.TheVariants as welwyn
use Rattle.line_law.specs.declared.call.Reply.{Reply}
use Rattle.line_law.specs.declared.call.Reply.TheVariants.{Winding, AlreadyWinding, NotAtNormal, Released, NotWinding}
use Rattle.line_law.specs.declared.call.Reply.TheVariants.{TooSoon}
use Rattle.line_law.specs.declared.state.BoxState.{BoxState}
use Rattle.line_law.specs.declared.state.Control.{Control}
use Rattle.line_law.specs.declared.state.Control.TheVariants.{Absolute, Permissive}
use Rattle.line_law.specs.declared.state.Incoming.{Incoming}
use Rattle.line_law.specs.Decisions.{Decision, Here, or_later, unless}
use Rattle.line_law.specs.Ways.{of_way, with_way}

-- ---- what becomes of the control

-- Line Clear is given: an absolute line is Given, on a permissive one a train more is out
abbrev pub given : Control → Control
given (Absolute state) = Absolute welwyn.Given
given (Permissive out) = Permissive (out + 1)

-- a train comes to the berth: an absolute line is Berthed
abbrev pub berthed_control : Control → Control
berthed_control (Absolute state) = Absolute welwyn.Berthed
berthed_control (Permissive out) = Permissive out

-- from Berthed to Ready
abbrev pub cleared_state : WelwynState → WelwynState
cleared_state welwyn.Ready = welwyn.Ready
cleared_state welwyn.Given = welwyn.Given
cleared_state welwyn.Berthed = welwyn.Ready

-- a train leaves the berth: an absolute line goes from Berthed to Ready, on a permissive one a train less is out, where
-- one was
abbrev pub left_control : Control → Control
left_control (Absolute state) = Absolute (cleared_state state)
left_control (Permissive out) = Permissive (out - 1)

-- the release comes: an absolute line is Ready, on a permissive one a train less is out, where one was
abbrev pub released_control : Control → Control
released_control (Absolute state) = Absolute welwyn.Ready
released_control (Permissive out) = Permissive (out - 1)

-- ---- wind and release

-- the line with a release begun that may come at this moment
abbrev pub wound : Incoming → ℕ → Incoming
wound line ready_at = record line { ready_at = Some ready_at }

-- refused where a release was begun
abbrev pub winding_refusal : Option ℕ → Option Reply
winding_refusal None = None
winding_refusal (Some ready_at) = Some AlreadyWinding

-- refused where the commutator doesn't show Normal
abbrev pub normal_refusal : Position → Option Reply
normal_refusal shows.Normal = None
normal_refusal shows.LineClear = Some NotAtNormal
normal_refusal shows.TrainOnLine = Some NotAtNormal

-- what winding is refused for
abbrev pub wind_refusal : Incoming → Option Reply
wind_refusal line = or_later (winding_refusal line.ready_at) (normal_refusal line.position)

-- the box with a release begun on that line
abbrev pub wound_here : BoxState → Way → ℕ → BoxState
wound_here here way ready_at =
    record here { incoming = with_way here.incoming way (wound (of_way here.incoming way) ready_at) }

-- a box begins to wind, at the moment of this call; the release may come after the plan's delay
abbrev pub wind : ℕ → BoxState → Way → Decision
wind delay here way = unless (wind_refusal (of_way here.incoming way)) here
    (Here (Winding (here.moment + delay)) (wound_here here way (here.moment + delay)))

-- the line after its release
abbrev pub released_line : Incoming → Incoming
released_line line = record line { control = released_control line.control; ready_at = None }

-- refused where the moment is below the ready moment
abbrev pub soon_refusal : Bool → ℕ → Option Reply
soon_refusal true ready_at = Some (TooSoon ready_at)
soon_refusal false ready_at = None

-- what a release is refused for, by the winding that was begun: refused where none was, and where the moment is below
-- its ready moment
abbrev pub release_refusal : ℕ → Option ℕ → Option Reply
release_refusal moment None = Some NotWinding
release_refusal moment (Some ready_at) = soon_refusal (nat_lt moment ready_at) ready_at

-- the box with that line released
abbrev pub released_here : BoxState → Way → BoxState
released_here here way =
    record here { incoming = with_way here.incoming way (released_line (of_way here.incoming way)) }

-- a box releases the control of an incoming line
abbrev pub release : BoxState → Way → Decision
release here way = unless (release_refusal here.moment (of_way here.incoming way).ready_at) here
    (Here Released (released_here here way))
