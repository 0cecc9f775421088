use Rattle.std.proofs.Common.{◌≡◌, drop, map}
use Rattle.sb_terms.specs.Outcome.{and_then, all_of}
use Rattle.sb_terms.specs.Expressions.{in_turn, behind, list_walk, step_node, conj_walk, neg_walk, add_rest_walk, prod_rest_walk, disj_walk, add_walk, prod_walk, post_walk, expr_walk}
use Rattle.sb_terms.specs.Nodes.{typed_of}
use Rattle.sb_terms.proofs.Listed.{listed_behind}
use Rattle.sb_terms.specs.declared.term.Double.TheVariants as double
use Rattle.sb_types.specs.TyView.{type_of}
use Rattle.sb_terms.proofs.expressions.+walk.Given as goal

abbrev pub invariant-disj-loop-part : goal.invariant-disj-loop-part
invariant-disj-loop-part l = in_turn (map (behind double.Or) (map conj_walk (drop l.part-index l.part-items))) (type_of l.it) (typed_of l.whole) ≡ disj_walk l.tree (type_of l.it)

abbrev pub invariant-conj-loop-part : goal.invariant-conj-loop-part
invariant-conj-loop-part l = in_turn (map (behind double.And) (map neg_walk (drop l.part-index l.part-items))) (type_of l.it) (typed_of l.whole) ≡ conj_walk l.tree (type_of l.it)

abbrev pub invariant-add-loop-rest : goal.invariant-add-loop-rest
invariant-add-loop-rest l = in_turn (map add_rest_walk (drop l.rest-index l.rest-items)) (type_of l.it) (typed_of l.whole) ≡ add_walk l.tree (type_of l.it)

abbrev pub invariant-prod-loop-rest : goal.invariant-prod-loop-rest
invariant-prod-loop-rest l = in_turn (map prod_rest_walk (drop l.rest-index l.rest-items)) (type_of l.it) (typed_of l.whole) ≡ prod_walk l.tree (type_of l.it)

abbrev pub invariant-post-loop-step : goal.invariant-post-loop-step
invariant-post-loop-step l = in_turn (map (λ s it x. step_node s x) (drop l.step-index l.step-items)) (type_of l.it) (typed_of l.whole) ≡ post_walk l.tree (type_of l.it)

abbrev pub invariant-list-loop-tree : goal.invariant-list-loop-tree
invariant-list-loop-tree l =
    and_then (all_of (map (λ p. p (type_of l.it)) (map expr_walk (drop l.tree-index l.trees)))) (listed_behind l.terms.items (map type_of l.types.items))
    ≡ list_walk (map expr_walk l.trees) (type_of l.it)
