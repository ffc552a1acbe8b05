use Rattle.std.proofs.Common.{subst, sym}
use Rattle.ct_node_database.specs.Noted.{IsTidy}
use Rattle.ct_node_plan.specs.Changes.{IsPlanned}
use Rattle.ct_node_plan.specs.declared.change.Planned.{Planned}
use Rattle.ct_rules_node.specs.Node.{Database, db_at}
use Rattle.ct_rules_node.specs.Steps.{vacuum_all}
use Rattle.ct_rules_node.specs.Turn.{begins}
use Rattle.ct_node_plan_records.specs.Keys.{deleted_of, vacuum_keys}
use Rattle.ct_node_plan_records.proofs.Walking.{noted_vacuumed, walk_planned, walk_refused}
use Rattle.ct_node_plan_records.proofs.vacuums.vacuum_all.Goals as goal

pub returns-in-Ok : goal.returns-in-Ok
returns-in-Ok c =
    let n = c.args.node.now in
    let keys = c.in_ok-noted.field-0.items in
    let t = vacuum_keys c.args.config.now c.args.me c.args.db (deleted_of c.args.db n keys) (begins n) in
    let u = vacuum_all c.args.config.now c.args.me c.args.db (db_at c.args.db n).records (begins n) in
    let tidy = subst (λ (d : Database). IsTidy keys d.records) c.requires.at c.in_ok-noted.ensures.deleted in
    subst (λ (p : Planned). IsPlanned p u n) (sym c.planned.ensures)
    (walk_planned c.args.db n c.in-Ok.walk t u c.requires.there (noted_vacuumed c.args.config.now c.args.me c.args.db n keys c.requires.own c.requires.order c.requires.there c.in_ok-noted.ensures.ascending tidy) c.in-Ok.ensures)

pub returns-in-Err : goal.returns-in-Err
returns-in-Err c =
    let n = c.args.node.now in
    let keys = c.in_ok-noted.field-0.items in
    let t = vacuum_keys c.args.config.now c.args.me c.args.db (deleted_of c.args.db n keys) (begins n) in
    let u = vacuum_all c.args.config.now c.args.me c.args.db (db_at c.args.db n).records (begins n) in
    let tidy = subst (λ (d : Database). IsTidy keys d.records) c.requires.at c.in_ok-noted.ensures.deleted in
    walk_refused c.args.db n c.in-Err.fault t u (noted_vacuumed c.args.config.now c.args.me c.args.db n keys c.requires.own c.requires.order c.requires.there c.in_ok-noted.ensures.ascending tidy) c.in-Err.ensures
