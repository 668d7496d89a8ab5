-- The Welwyn control of an absolute line.
use Rattle.std.specs.Prelude.{ℕ, Option, None}
use Rattle.block_words.specs.declared.WelwynState.{WelwynState}
use Rattle.block_words.specs.declared.WelwynState.TheVariants.{Ready, Given, Berthed}
use Rattle.welwyn_control.specs.declared.releases.ReleaseReply.{ReleaseReply}
use Rattle.welwyn_control.specs.declared.releases.ReleaseReply.TheVariants.{Released, NotWinding, TooSoon}

-- how far the last Line Clear has come, and the ready moment of a winding, if there is one
pub record Control : Type 0 where
  pub state : WelwynState
  pub winding : Option ℕ

-- a train that leaves the berth makes a control ready that stood at Berthed
abbrev pub cleared_state : WelwynState → WelwynState
cleared_state Ready = Ready
cleared_state Given = Given
cleared_state Berthed = Ready

-- a release that is complete makes the control ready and ends the winding; any other reply changes nothing
abbrev pub control_after : ReleaseReply → Control → Control
control_after Released old = record { state = Ready; winding = None }
control_after NotWinding old = old
control_after (TooSoon _) old = old
