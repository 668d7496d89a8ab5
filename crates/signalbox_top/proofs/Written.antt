-- Files that are written, one behind another.
use Rattle.std.proofs.Common.{◌≡◌, [], Option, Some, None, refl, ap, sym}
use Rattle.std.proofs.lemmas.List.{append-nil}
use Rattle.signalbox_top.specs.Hand.{Files, and_written}

-- no file is written
pub none_written : (files : Option Files) → files ≡ and_written files []
none_written None = refl
none_written (Some all) = ap Some (sym (append-nil all))
