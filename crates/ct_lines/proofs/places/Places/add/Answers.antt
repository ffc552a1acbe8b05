use Rattle.std.proofs.Common.{rules}
use Rattle.ct_lines.proofs.Placed.{db_accepted, address_accepted}
use Rattle.ct_lines.proofs.places.Places.add.Goals as goal

pub invariant_of-self-in_ok-push-in-Db : goal.invariant_of-self-in_ok-push-in-Db
invariant_of-self-in_ok-push-in-Db c = db_accepted (record { nodes = c.self.inside.nodes; dbs = c.self.inside.dbs; addresses = c.self.inside.addresses; begun = c.self.inside.begun }) c.args.what.now c.in-Db.db c.push.new.self (search rules) (search rules) (search rules) c.self.invariant

pub invariant_of-self-in_ok-push-in-Address : goal.invariant_of-self-in_ok-push-in-Address
invariant_of-self-in_ok-push-in-Address c = address_accepted (record { nodes = c.self.inside.nodes; dbs = c.self.inside.dbs; addresses = c.self.inside.addresses; begun = c.self.inside.begun }) c.args.what.now c.in-Address.address c.push-in-Address.new.self (search rules) (search rules) (search rules) c.self.invariant
