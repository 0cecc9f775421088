use Rattle.std.proofs.Common.{◌≡◌, ◌+◌, ◌*◌, ◌++◌, drop, map, length}
use Rattle.std.specs.List.{AllByRecursion, flat_map, sum_by}
use Rattle.sb_meaning.specs.Expression.{ev}
use Rattle.sb_meaning.specs.Its.{it_value}
use Rattle.sb_meaning.specs.Words.{words_of}
use Rattle.sb_plan.specs.Paths.{chain_gives}
use Rattle.sb_plan.specs.PathSteps.{run_steps}
use Rattle.sb_service.specs.Views.{view_service}
use Rattle.sb_types.specs.Value.{text}
use Rattle.sb_types.specs.ValView.{value_of}
use Rattle.sb_plan.proofs.running.+run.Given as goal

abbrev pub decreases-run : goal.decreases-run
decreases-run g l = length l.stages.now * 4

abbrev pub decreases-run_mapped : goal.decreases-run_mapped
decreases-run_mapped g l = length l.stages.now * 4 + 1

abbrev pub decreases-run_elements : goal.decreases-run_elements
decreases-run_elements g l = length l.stages.now * 4 + 3

abbrev pub decreases-run_words : goal.decreases-run_words
decreases-run_words g l = length l.stages.now * 4 + 2

abbrev pub decreases-run_words_in : goal.decreases-run_words_in
decreases-run_words_in g l = length l.stages.now * 4 + 1

abbrev pub decreases-run_parts : goal.decreases-run_parts
decreases-run_parts g l = length l.stages.now * 4 + 2

abbrev pub decreases-run_all : goal.decreases-run_all
decreases-run_all g l = length l.stages.now * 4 + 1

abbrev pub invariant-run_words_in-loop-bytes : goal.invariant-run_words_in-loop-bytes
invariant-run_words_in-loop-bytes g l = record {
  made : l.out.items ++ map (g.M.Maker.made l.maker) (flat_map (chain_gives (map view_service l.services) l.stages) (map text l.words))
      ≡ l.fn.out.items ++ map (g.M.Maker.made l.maker) (flat_map (chain_gives (map view_service l.services) l.stages) (map text (words_of l.most l.fn.bytes)));
  good : AllByRecursion (g.M.Maker.good l.maker) l.fn.out.items → AllByRecursion (g.M.Maker.good l.maker) l.out.items;
  steps : l.steps + sum_by (run_steps (g.M.Maker.takes l.maker) (map view_service l.services) l.stages) (map text l.words)
      ≡ l.fn.steps + sum_by (run_steps (g.M.Maker.takes l.maker) (map view_service l.services) l.stages) (map text (words_of l.most l.fn.bytes));
}

abbrev pub decreases-run_words_in-loop-bytes : goal.decreases-run_words_in-loop-bytes
decreases-run_words_in-loop-bytes g l = length l.words

abbrev pub invariant-run_parts-loop-part : goal.invariant-run_parts-loop-part
invariant-run_parts-loop-part g l = record {
  made : l.out.items ++ map (g.M.Maker.made l.maker) (flat_map (chain_gives (map view_service l.services) l.stages) (map (λ e. ev e (it_value l.it)) (drop l.part-index l.parts)))
      ≡ l.fn.out.items ++ map (g.M.Maker.made l.maker) (flat_map (chain_gives (map view_service l.services) l.stages) (map (λ e. ev e (it_value l.it)) l.parts));
  good : AllByRecursion (g.M.Maker.good l.maker) l.fn.out.items → AllByRecursion (g.M.Maker.good l.maker) l.out.items;
  steps : l.steps + sum_by (run_steps (g.M.Maker.takes l.maker) (map view_service l.services) l.stages) (map (λ e. ev e (it_value l.it)) (drop l.part-index l.parts))
      ≡ l.fn.steps + sum_by (run_steps (g.M.Maker.takes l.maker) (map view_service l.services) l.stages) (map (λ e. ev e (it_value l.it)) l.parts);
}

abbrev pub invariant-run_all-loop-value : goal.invariant-run_all-loop-value
invariant-run_all-loop-value g l = record {
  made : l.out.items ++ map (g.M.Maker.made l.maker) (flat_map (chain_gives (map view_service l.services) l.stages) (map value_of (drop l.value-index l.values)))
      ≡ l.fn.out.items ++ map (g.M.Maker.made l.maker) (flat_map (chain_gives (map view_service l.services) l.stages) (map value_of l.values));
  good : AllByRecursion (g.M.Maker.good l.maker) l.fn.out.items → AllByRecursion (g.M.Maker.good l.maker) l.out.items;
  steps : l.steps + sum_by (run_steps (g.M.Maker.takes l.maker) (map view_service l.services) l.stages) (map value_of (drop l.value-index l.values))
      ≡ l.fn.steps + sum_by (run_steps (g.M.Maker.takes l.maker) (map view_service l.services) l.stages) (map value_of l.values);
}
