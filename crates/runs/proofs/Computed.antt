-- Every script, by computing.
use Rattle.model.specs.Words.{refl}
use Rattle.model.specs.Average.{average_price_lem}
use Rattle.model.specs.Matching.{meet}
use Rattle.model.specs.Opening.{demand, supply, tradable, gap, better, opening_price_lem, uncross, opening}
use Rattle.model.specs.Calls.{answer, trades, after}
use Rattle.model.specs.Tally.{reduced_by, tallied}
use Rattle.register.specs.Books.{at, sum_to}
use Rattle.runs.specs.Scripts.{Agrees}
use Rattle.runs.specs.FullDay as full_day
use Rattle.runs.specs.SecondDay as second_day
use Rattle.runs.specs.Governed as governed
use Rattle.runs.specs.Edges as edges
use Rattle.runs.specs.Blocked as blocked
use Rattle.runs.specs.Capped as capped
use Rattle.runs.specs.Mixed as mixed
use Rattle.runs.specs.MixedTens as mixed_tens
use Rattle.runs.specs.Every.{EveryScriptAgrees}

full-day-agrees : Agrees full_day.script
unfolding average_price_lem meet demand supply tradable gap better opening_price_lem uncross opening answer trades after reduced_by tallied at sum_to
full-day-agrees = record { entries = refl; accounts = refl; queues = refl; sums = refl; standing = refl; running = refl }

second-day-agrees : Agrees second_day.script
unfolding average_price_lem meet demand supply tradable gap better opening_price_lem uncross opening answer trades after reduced_by tallied at sum_to
second-day-agrees = record { entries = refl; accounts = refl; queues = refl; sums = refl; standing = refl; running = refl }

governed-agrees : Agrees governed.script
unfolding average_price_lem meet demand supply tradable gap better opening_price_lem uncross opening answer trades after reduced_by tallied at sum_to
governed-agrees = record { entries = refl; accounts = refl; queues = refl; sums = refl; standing = refl; running = refl }

edges-agrees : Agrees edges.script
unfolding average_price_lem meet demand supply tradable gap better opening_price_lem uncross opening answer trades after reduced_by tallied at sum_to
edges-agrees = record { entries = refl; accounts = refl; queues = refl; sums = refl; standing = refl; running = refl }

blocked-agrees : Agrees blocked.script
unfolding average_price_lem meet demand supply tradable gap better opening_price_lem uncross opening answer trades after reduced_by tallied at sum_to
blocked-agrees = record { entries = refl; accounts = refl; queues = refl; sums = refl; standing = refl; running = refl }

capped-agrees : Agrees capped.script
unfolding average_price_lem meet demand supply tradable gap better opening_price_lem uncross opening answer trades after reduced_by tallied at sum_to
capped-agrees = record { entries = refl; accounts = refl; queues = refl; sums = refl; standing = refl; running = refl }

mixed-agrees : Agrees mixed.script
unfolding average_price_lem meet demand supply tradable gap better opening_price_lem uncross opening answer trades after reduced_by tallied at sum_to
mixed-agrees = record { entries = refl; accounts = refl; queues = refl; sums = refl; standing = refl; running = refl }

mixed-tens-agrees : Agrees mixed_tens.script
unfolding average_price_lem meet demand supply tradable gap better opening_price_lem uncross opening answer trades after reduced_by tallied at sum_to
mixed-tens-agrees = record { entries = refl; accounts = refl; queues = refl; sums = refl; standing = refl; running = refl }

pub every-script-agrees : EveryScriptAgrees
every-script-agrees = (full-day-agrees, (second-day-agrees, (governed-agrees, (edges-agrees, (blocked-agrees, (capped-agrees, (mixed-agrees, (mixed-tens-agrees, tt))))))))
