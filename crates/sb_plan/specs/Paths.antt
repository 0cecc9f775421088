-- What paths give of a record.
use Rattle.std.specs.Prelude.{List, [], ◌∷◌, if◌then◌else◌}
use Rattle.std.specs.List.{flat_map}
use Rattle.sb_types.specs.Value.{Value}
use Rattle.sb_check.specs.Log.{Logged}
use Rattle.sb_service.specs.Rows.{Rows}
use Rattle.sb_meaning.specs.Expression.{ev}
use Rattle.sb_meaning.specs.Operations.{elements_in}
use Rattle.sb_meaning.specs.Streams.{is_true, join_with, list_at}
use Rattle.sb_plan.specs.Given.{OfRecord, of_source}
use Rattle.sb_plan.specs.declared.paths.Path.{Path}
use Rattle.sb_plan.specs.declared.paths.Root.{Root}
use Rattle.sb_plan.specs.declared.paths.Root.TheVariants as root
use Rattle.sb_plan.specs.declared.paths.Stage.{Stage}
use Rattle.sb_plan.specs.declared.paths.Stage.TheVariants as stage

-- what a stage makes of a value
abbrev pub stage_gives : List Rows → Stage → Value → List Value
stage_gives services (stage.Map e) v = ev e.now v ∷ []
stage_gives services (stage.Filter e) v = if is_true e.now v then v ∷ [] else []
stage_gives services (stage.FlatMap e) v = elements_in (ev e.now v)
stage_gives services (stage.Join n) v = join_with (list_at n services) v ∷ []

-- what stages make of a value, one after the other
abbrev pub chain_gives : List Rows → List Stage → Value → List Value
chain_gives services [] v = v ∷ []
chain_gives services (s ∷ stages) v = flat_map (chain_gives services stages) (stage_gives services s v)

-- what comes from a root of a record, by what each let gives of it
abbrev pub root_gives : Logged → List (List Value) → Root → List Value
root_gives r lets (root.Source n) = of_source n r
root_gives r lets (root.Let n) = list_at n lets

abbrev pub path_gives : Logged → List Rows → List (List Value) → Path → List Value
path_gives r services lets path = flat_map (chain_gives services path.stages.items) (root_gives r lets path.root)

-- what paths give, one after the other
abbrev pub gives : List Path → OfRecord
gives paths r services lets = flat_map (path_gives r services lets) paths

-- what of them a stage gives
abbrev pub staged : Stage → OfRecord → OfRecord
staged s before r services lets = flat_map (stage_gives services s) (before r services lets)
