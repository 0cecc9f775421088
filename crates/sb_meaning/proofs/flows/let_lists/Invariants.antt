use Rattle.std.proofs.Common.{◌≡◌, [], drop, map}
use Rattle.sb_check.specs.Declarations.{let_of}
use Rattle.sb_check.specs.Log.{logged_of}
use Rattle.sb_service.specs.Views.{view_service}
use Rattle.sb_meaning.specs.Streams.{at_of, lets_of}
use Rattle.sb_meaning.proofs.flows.let_lists.Given as goal

abbrev pub invariant-loop-bound : goal.invariant-loop-bound
invariant-loop-bound l =
    lets_of (map logged_of l.log) (map view_service l.services) (map (λ l. map at_of l.items) l.out) (map (λ l. l.stream.flow) (map let_of (drop l.bound-index l.lets)))
    ≡ lets_of (map logged_of l.log) (map view_service l.services) [] (map (λ l. l.stream.flow) (map let_of l.lets))
