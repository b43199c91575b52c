-- The words that tell a call that is made.
use Rattle.std.specs.Prelude.{ℕ, List, codes}
use Rattle.model.specs.declared.calls.Call.{Call}
use Rattle.model.specs.declared.calls.Call.TheVariants as call

-- a call that is made, where nothing else is to be told of it
abbrev pub done_text : Call → List ℕ
done_text (call.Start listing) = codes "started"
done_text (call.Deposit holder asset amount) = codes "deposited"
done_text (call.Withdraw holder asset amount) = codes "withdrawn"
done_text (call.Place shown bid room) = codes "bid"
done_text (call.Cancel shown holder ticker number) = codes "cancelled"
done_text (call.Open room) = codes "opened"
done_text call.EndTrading = codes "trading-ended"
done_text call.EndPostTrading = codes "post-trading-ended"
