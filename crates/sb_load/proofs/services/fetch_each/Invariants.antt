use Rattle.std.proofs.Common.{◌≡◌, List, drop, map}
use Rattle.std.specs.Prelude.{Result}
use Rattle.sb_check.specs.Declarations.{service_of}
use Rattle.sb_service.specs.Rows.{Rows}
use Rattle.sb_service.specs.Views.{view_service}
use Rattle.sb_words.specs.declared.command.Command.{Command}
use Rattle.sb_load.specs.Causes.{Leaves}
use Rattle.sb_load.specs.Commands.{files_of}
use Rattle.sb_load.specs.Inputs.{LoadsEach}
use Rattle.sb_load.specs.Steps.{IsBehind}
use Rattle.sb_load.specs.declared.refusal.Refusal.{Refusal}
use Rattle.sb_load.proofs.services.fetch_each.Given as goal

-- what is loaded of the services to come stands behind the rows, and the shelf tells what it told
abbrev pub invariant-loop-service : goal.invariant-loop-service
invariant-loop-service g l = record {
  read : (loaded : Result (List Rows) Refusal) → LoadsEach (g.H.Shelf.content l.fn.shelf) l.files (map service_of l.services) loaded
      → IsBehind (g.H.Shelf.content l.fn.shelf) l.files (map service_of (drop l.service-index l.services)) (map view_service l.all.items) loaded;
  frame : (command : Command) → files_of command ≡ l.files
      → Leaves command (g.H.Shelf.content l.fn.shelf) (g.H.Shelf.content l.shelf) (g.H.Shelf.faults l.fn.shelf) (g.H.Shelf.faults l.shelf);
}
