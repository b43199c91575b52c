use Rattle.std.proofs.Common.{◌∙◌, rules}
use Rattle.queues.specs.Entries.{entries}
use Rattle.queues.proofs.Named.{taken-named, left-named, none-taken}
use Rattle.queues.proofs.queue.Queue.take_named.Goals as goal

pub returns-in_err-place-clause-taken : goal.returns-in_err-place-clause-taken
returns-in_err-place-clause-taken c =
    let e = none-taken c.args.holder c.args.number (entries c.args.self.now) c.in_err-place.ensures in
    search rules

pub returns-in_err-place-clause-left : goal.returns-in_err-place-clause-left
returns-in_err-place-clause-left c = (none-taken c.args.holder c.args.number (entries c.args.self.now) c.in_err-place.ensures).1

pub returns-clause-taken : goal.returns-clause-taken
returns-clause-taken c =
    let a = c.args in
    taken-named a.holder a.number (entries a.self.now) c.in_ok-place.place c.remove.result c.in_ok-place.ensures c.remove.ensures.taken

pub returns-clause-left : goal.returns-clause-left
returns-clause-left c =
    let a = c.args in
    c.remove.ensures.left ∙ left-named a.holder a.number (entries a.self.now) c.in_ok-place.place c.in_ok-place.ensures
