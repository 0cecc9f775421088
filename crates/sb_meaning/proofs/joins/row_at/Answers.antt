use Rattle.std.proofs.Common.{sym}
use Rattle.sb_types.proofs.ValViews.{value_of-None}
use Rattle.sb_service.specs.Views.{view_service}
use Rattle.sb_meaning.proofs.Views.{list_at_view}
use Rattle.sb_meaning.proofs.joins.row_at.Goals as goal

pub returns-in-Some : goal.returns-in-Some
returns-in-Some c = rw (list_at_view view_service c.args.services.now c.args.number, sym c.at.ensures, c.in-Some.is, sym c.get.ensures) c.copy_option.ensures

pub returns-in-None : goal.returns-in-None
returns-in-None c = rw (list_at_view view_service c.args.services.now c.args.number, sym c.at.ensures, c.in-None.is) value_of-None
