use Rattle.std.proofs.Common.{◌≡◌, length, set, sym, ap, ◌∙◌, subst}
use Rattle.std.specs.List.{refill}
use Rattle.registers.specs.declared.entries.Entry.{Entry}
use Rattle.registers.specs.Lists.{list_book}
use Rattle.registers.proofs.Listed.{book-writes, writes-set, writes-removed, writes-inserted, writes_nothing, empty-balance}
use Rattle.registers.proofs.Kept.{Sound, kept, kept-apart, sound-set, sound-removed, sound-inserted, room-left, rewritten, sound-fits}
use Rattle.registers.proofs.list.ListAccounts.put.Goals as goal

pub invariant_of-self : goal.invariant_of-self
invariant_of-self c =
    let t = c.args.self.now in
    let xs = t.entries.items in
    let e : Entry = record { holder = c.args.account.holder; asset = c.args.account.asset; balance = c.args.balance } in
    let i = c.in-Some.at in
    let left : refill (length xs) xs (set c.deref_mut.result.now i e) ≡ set xs i e = rewritten xs _ i e c.deref_mut.ensures.value in
    let s = subst Sound (sym left) (sound-set xs e (kept t) c.args.account.holder_known c.args.account.asset_known c.requires i (sym c.in-Some.ensures) (sym c.if-has_something.ensures)) in
    record { within = sound-fits _ s; ranked = s.ranked; apart = s.apart; known = s.known; filled = s.filled; bounded = s.bounded }

pub invariant_of-self-else-has_something : goal.invariant_of-self-else-has_something
invariant_of-self-else-has_something c =
    let t = c.args.self.now in
    let e : Entry = record { holder = c.args.account.holder; asset = c.args.account.asset; balance = c.args.balance } in
    let s : Sound c.take_out.new.entries.items =
    subst Sound (sym c.take_out.ensures)
    (sound-removed t.entries.items e (kept t) c.args.account.holder_known c.args.account.asset_known c.requires c.in-Some.at (sym c.in-Some.ensures) (sym c.if-has_something.ensures)) in
    record { within = sound-fits _ s; ranked = s.ranked; apart = s.apart; known = s.known; filled = s.filled; bounded = s.bounded }

pub enter-requires : goal.enter-requires
enter-requires c =
    let t = c.args.self.now in
    let e : Entry = record { holder = c.args.account.holder; asset = c.args.account.asset; balance = c.args.balance } in
    room-left t.entries.items e
    (sound-inserted t.entries.items e (kept t) c.args.account.holder_known c.args.account.asset_known c.requires (sym c.if-has_something-2.ensures) (sym c.in-None.ensures))

pub invariant_of-self-then-has_something-2 : goal.invariant_of-self-then-has_something-2
invariant_of-self-then-has_something-2 c =
    let t = c.args.self.now in
    let e : Entry = record { holder = c.args.account.holder; asset = c.args.account.asset; balance = c.args.balance } in
    let s : Sound c.enter.new.entries.items =
    subst Sound (sym c.enter.ensures)
    (sound-inserted t.entries.items e (kept t) c.args.account.holder_known c.args.account.asset_known c.requires (sym c.if-has_something-2.ensures) (sym c.in-None.ensures)) in
    record { within = sound-fits _ s; ranked = s.ranked; apart = s.apart; known = s.known; filled = s.filled; bounded = s.bounded }

pub returns-then-has_something : goal.returns-then-has_something
returns-then-has_something c =
    let t = c.args.self.now in
    let xs = t.entries.items in
    let e : Entry = record { holder = c.args.account.holder; asset = c.args.account.asset; balance = c.args.balance } in
    let i = c.in-Some.at in
    ap list_book (rewritten xs _ i e c.deref_mut.ensures.value) ∙ book-writes xs (set xs i e) e (writes-set xs e (kept-apart t) i (sym c.in-Some.ensures))

pub returns-else-has_something : goal.returns-else-has_something
returns-else-has_something c =
    let t = c.args.self.now in
    let xs = t.entries.items in
    let e : Entry = record { holder = c.args.account.holder; asset = c.args.account.asset; balance = c.args.balance } in
    ap list_book c.take_out.ensures ∙
    book-writes xs _ e (writes-removed xs e (kept-apart t) c.in-Some.at (sym c.in-Some.ensures) (empty-balance e (sym c.if-has_something.ensures)))

pub returns-then-has_something-2 : goal.returns-then-has_something-2
returns-then-has_something-2 c =
    let xs = c.args.self.now.entries.items in
    let e : Entry = record { holder = c.args.account.holder; asset = c.args.account.asset; balance = c.args.balance } in
    ap list_book c.enter.ensures ∙ book-writes xs _ e (writes-inserted xs e (sym c.in-None.ensures))

pub returns-else-has_something-2 : goal.returns-else-has_something-2
returns-else-has_something-2 c =
    let xs = c.args.self.now.entries.items in
    let e : Entry = record { holder = c.args.account.holder; asset = c.args.account.asset; balance = c.args.balance } in
    book-writes xs xs e (writes_nothing xs e (sym c.in-None.ensures) (empty-balance e (sym c.if-has_something-2.ensures)))
