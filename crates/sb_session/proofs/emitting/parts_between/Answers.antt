use Rattle.std.proofs.Common.{◌∙◌, ◌&&◌, ◌++◌, ◌≡◌, cond, [], nat_lt, sym, ap, arith}
use Rattle.sb_feed.specs.Feeds.{parts_at}
use Rattle.sb_job.specs.Emitted.{parts_where, is_between}
use Rattle.sb_session.proofs.Emitted.{parts_next, parts_before, parts_range, is_within}
use Rattle.sb_session.proofs.emitting.parts_between.Goals as goal

pub loop-i-init : goal.loop-i-init
loop-i-init g c = record {
  from = omega arith;
  parts = c.new-parts.ensures.items ∙ sym (parts_before c.args.from c.args.to (g.F.Feed.records c.args.feed.now));
}

pub loop-i-preserved : goal.loop-i-preserved
loop-i-preserved g c =
    let records = g.F.Feed.records c.args.feed.now in
    record {
      from = omega (arith, c.loop-i.invariant.from);
      parts = c.in_ok-emit.ensures.ok
          ∙ (ap (λ l. l ++ parts_at records c.loop-i.i) c.loop-i.invariant.parts
          ∙ (ap (λ b. parts_where (λ k. is_between c.args.from c.args.to k && nat_lt k c.loop-i.i) 0 records ++ cond b (parts_at records c.loop-i.i) []) (sym (is_within c.args.from c.args.to c.loop-i.i c.loop-i.invariant.from c.loop-i-test.true))
          ∙ sym (parts_next (is_between c.args.from c.args.to) 0 c.loop-i.i c.loop-i.i _ records (omega arith) (omega arith) (omega (arith, c.loop-i-test.true, c.requires.to)))));
    }

pub returns : goal.returns
returns g c =
    let records = g.F.Feed.records c.args.feed.now in
    let ended : c.loop-i.i ≡ c.args.to = omega (arith, c.loop-i-test.false, c.loop-i.auto.i-end c.requires.from) in
    c.loop-i.invariant.parts ∙ (ap (λ i. parts_where (λ k. is_between c.args.from c.args.to k && nat_lt k i) 0 records) ended ∙ parts_range c.args.from c.args.to records)
