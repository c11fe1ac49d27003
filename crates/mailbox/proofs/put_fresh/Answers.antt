-- `mailbox::put_fresh` meets its contract: its parts are those of the definition. Assumes nothing.
use Rattle.aggregate.specs.Aggregate.{root_of}
use Rattle.mail.proofs.Guards.{starts_written_lem}
use Rattle.mailbox.specs.Net.{fresh_net}
use Rattle.mailbox.proofs.put_fresh.Goals as goal

pub returns : goal.returns
unfolding fresh_net
returns c =
    let put = c.put_fresh.ensures in record {
      net = rw (
        c.post_starts.ensures,
        c.root-root.ensures,
        starts_written_lem _ (root_of c.args.t) c.requires _,
        c.clear.ensures,
        put.config,
        put.stations,
      );
      spare = put.spare;
    }
