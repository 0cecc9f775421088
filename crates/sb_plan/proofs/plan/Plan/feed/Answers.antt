use Rattle.std.proofs.Common.{◌≡◌, ◌<◌, ◌∙◌, ap, sym, subst, map, length, Some, arith}
use Rattle.std.specs.Prelude.{OnOk, option_map, slice_get}
use Rattle.std.specs.List.{AllByRecursion}
use Rattle.std.proofs.lemmas.List.{length-map}
use Rattle.std.proofs.lemmas.Option.{slice_get-map}
use Rattle.sb_gather.proofs.Search.{got}
use Rattle.sb_plan.specs.Plans.{feeding_by, is_fed}
use Rattle.sb_plan.proofs.plan.Plan.feed.Goals as goal

pub returns-clause-good : goal.returns-clause-good
returns-clause-good g c =
    let stores = c.args.self.now.stores.items in
    let plan = c.index-plan.result.now in
    let there : c.args.store < length stores = (let same = length-map stores feeding_by in let less = c.requires in omega (arith, same, less)) in
    let is : slice_get (map feeding_by stores) c.args.store ≡ Some (feeding_by plan) = slice_get-map feeding_by stores c.args.store ∙ ap (option_map feeding_by) (got stores c.args.store plan there c.index-plan.ensures) in
    subst (λ o. OnOk c.run_paths.result (AllByRecursion (is_fed o) c.args.out.now.items → AllByRecursion (is_fed o) c.run_paths.new.out.items)) (sym is) c.run_paths.ensures.good
