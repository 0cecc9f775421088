use Rattle.std.proofs.Common.{map, refl}
use Rattle.sb_check.specs.Declarations.{service_of}
use Rattle.sb_service.specs.Views.{view_service}
use Rattle.sb_load.proofs.Advancing.{goes_further, is_refused}
use Rattle.sb_load.proofs.services.add_next.Goals as goal

pub returns-in-Err-clause-read : goal.returns-in-Err-clause-read
returns-in-Err-clause-read g c = λ others loaded is.
    is_refused (g.H.Shelf.content c.args.shelf.now) c.args.files.now (service_of c.args.service.now) others (map view_service c.args.all.now.items) c.in-Err.refusal c.in-Err.ensures.read loaded is

pub returns-in-Ok-clause-read : goal.returns-in-Ok-clause-read
returns-in-Ok-clause-read g c = λ others loaded is.
    goes_further (g.H.Shelf.content c.args.shelf.now) c.args.files.now (service_of c.args.service.now) others (map view_service c.args.all.now.items)
    c.args.all.now.items c.put.new.all.items c.in-Ok.next c.put.result refl c.put.ensures.rows c.put.ensures.memory c.in-Ok.ensures.read loaded is
