use Rattle.std.proofs.Common.{◌≡◌, ◌+◌, ◌<◌, arith, length, refl}
use Rattle.std.specs.Prelude.{Err, Ok}
use Rattle.ct_call.specs.Shown.{rules_of}
use Rattle.ct_outside.specs.declared.fault.SinkFault.TheVariants as sink
use Rattle.ct_troupe_run.proofs.Telling.{fronts_failed, fronts_more, fronts_stop, played_at, written_at}
use Rattle.ct_troupe_run.proofs.columns.write_columns.Goals as goal

pub write_column-requires-clause-played : goal.write_column-requires-clause-played
write_column-requires-clause-played g c =
    let here : c.loop-place.place < length c.args.plans.now = omega (arith, c.loop-place-test.true) in
    played_at (rules_of c.args.table.now) c.args.plans.now (g.T.Columns.told_in c.args.troupe.now) c.loop-place.place _ c.index-plans-place.result c.column-journals.result.now c.requires.played here c.index-plans-place.is
    (omega (arith, here, c.requires.few)) c.column-journals.ensures

pub returns-in-Err-clause-writes : goal.returns-in-Err-clause-writes
returns-in-Err-clause-writes g c =
    let here : c.loop-place.place < length c.args.plans.now = omega (arith, c.loop-place-test.true) in
    let told = g.T.Columns.told_in c.args.troupe.now in
    let before = g.K.Sink.held c.args.out.now in
    let between = g.K.Sink.held c.loop-place.out in
    let now = g.K.Sink.held c.write_column.new.out in
    fronts_failed (rules_of c.args.table.now) c.args.plans.now told c.loop-place.place c.index-plans-place.result c.loop-place.counts c.in-Err.fault before between now c.requires.sound c.requires.played here c.loop-place.invariant.fronts
    (written_at (rules_of c.args.table.now) c.args.plans.now told c.loop-place.place _ c.index-plans-place.result c.column-journals.result.now (Err c.in-Err.fault) between now c.index-plans-place.is (omega (arith, here, c.requires.few)) c.column-journals.ensures
    c.in-Err.ensures.writes)

pub returns-in-None-clause-writes : goal.returns-in-None-clause-writes
returns-in-None-clause-writes g c =
    let here : c.loop-place.place < length c.args.plans.now = omega (arith, c.loop-place-test.true) in
    let told = g.T.Columns.told_in c.args.troupe.now in
    let before = g.K.Sink.held c.args.out.now in
    let between = g.K.Sink.held c.loop-place.out in
    let now = g.K.Sink.held c.write_column.new.out in
    let more = c.in-Ok.more in
    let wrote = written_at (rules_of c.args.table.now) c.args.plans.now told c.loop-place.place _ c.index-plans-place.result c.column-journals.result.now (Ok more) between now c.index-plans-place.is (omega (arith, here, c.requires.few)) c.column-journals.ensures
    c.in-Ok.ensures.writes in
    fronts_stop (rules_of c.args.table.now) c.args.plans.now told (c.loop-place.place + 1) _ sink.NoMemory before now c.requires.sound c.requires.played (omega (arith, here))
    (fronts_more (rules_of c.args.table.now) c.args.plans.now told c.loop-place.place c.index-plans-place.result c.loop-place.counts more _ before between now here c.loop-place.invariant.fronts wrote refl)

pub loop-place-preserved : goal.loop-place-preserved
loop-place-preserved g c =
    let here : c.loop-place.place < length c.args.plans.now = omega (arith, c.loop-place-test.true) in
    let told = g.T.Columns.told_in c.args.troupe.now in
    let before = g.K.Sink.held c.args.out.now in
    let between = g.K.Sink.held c.loop-place.out in
    let now = g.K.Sink.held c.write_column.new.out in
    let more = c.in-Ok.more in
    let wrote = written_at (rules_of c.args.table.now) c.args.plans.now told c.loop-place.place _ c.index-plans-place.result c.column-journals.result.now (Ok more) between now c.index-plans-place.is (omega (arith, here, c.requires.few)) c.column-journals.ensures
    c.in-Ok.ensures.writes in
    record {
      within = omega (arith, here);
      fronts = fronts_more (rules_of c.args.table.now) c.args.plans.now told c.loop-place.place c.index-plans-place.result c.loop-place.counts more c.in-Some.all before between now here c.loop-place.invariant.fronts wrote c.in-Some.ensures;
      later = omega (arith, c.loop-place.invariant.later, c.write_column.ensures.cause.later);
    }
