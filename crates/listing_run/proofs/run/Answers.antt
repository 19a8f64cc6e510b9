use Rattle.std.proofs.Common.{refl, arith}
use Rattle.listing_feed_steps.specs.Feeds.{start}
use Rattle.listing_feed_steps.proofs.Feeds.{fed_start, fed_holds}
use Rattle.listing_run.proofs.run.Goals as goal

pub put_counts-n-requires : goal.put_counts-n-requires
unfolding start
put_counts-n-requires g c =
    let fed = fed_start 65520 6145 c.fresh_store.ensures refl c.feed_all.ensures in
    (fed_holds fed, omega (arith, c.print_list.auto.out, c.feed_all.auto.out))
