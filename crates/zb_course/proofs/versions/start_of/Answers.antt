use Rattle.std.proofs.Common.{◌≡◌, ◌&&◌, [], bytes_eq, true, false, Bool, sym, ap, ◌∙◌, arith, rules}
use Rattle.std.specs.List.{find}
use Rattle.zb_faults.specs.Elements.{is_start}
use Rattle.zb_process.specs.declared.model.Node.{Node}
use Rattle.zb_course.proofs.FindLemmas.{found_here, found_later}
use Rattle.zb_course.proofs.versions.start_of.Goals as goal
