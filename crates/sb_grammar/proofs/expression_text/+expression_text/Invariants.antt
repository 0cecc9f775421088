use Rattle.std.proofs.Common.{◌≡◌, ◌++◌, codes, drop, map}
use Rattle.sb_grammar.specs.Text.{all_text, each_behind, listed, conj_text, neg_text, add_rest_text, prod_rest_text, disj_text, add_text, prod_text, expr_text}
use Rattle.sb_grammar.proofs.Listing.{listed_from}
use Rattle.sb_grammar.proofs.expression_text.+expression_text.Given as goal

abbrev pub invariant-push_add-loop-rest : goal.invariant-push_add-loop-rest
invariant-push_add-loop-rest l = l.out.items ++ all_text (map add_rest_text (drop l.rest-index l.rest-items)) ≡ l.fn.out.items ++ add_text l.add

abbrev pub invariant-push_conj-loop-neg : goal.invariant-push_conj-loop-neg
invariant-push_conj-loop-neg l = l.out.items ++ each_behind (codes "and ") (map neg_text (drop l.neg-index l.neg-items)) ≡ l.fn.out.items ++ conj_text l.conj

abbrev pub invariant-push_disj-loop-conj : goal.invariant-push_disj-loop-conj
invariant-push_disj-loop-conj l = l.out.items ++ each_behind (codes "or ") (map conj_text (drop l.conj-index l.conj-items)) ≡ l.fn.out.items ++ disj_text l.disj

abbrev pub invariant-push_list-loop-at : goal.invariant-push_list-loop-at
invariant-push_list-loop-at l = l.out.items ++ listed_from l.at (map expr_text (drop l.at l.parts)) ≡ l.fn.out.items ++ listed (map expr_text l.parts)

abbrev pub invariant-push_prod-loop-rest : goal.invariant-push_prod-loop-rest
invariant-push_prod-loop-rest l = l.out.items ++ all_text (map prod_rest_text (drop l.rest-index l.rest-items)) ≡ l.fn.out.items ++ prod_text l.prod
