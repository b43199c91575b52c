use Rattle.model.proofs.laws.opening_stands.Goals as goal
use Rattle.model.proofs.OpeningPrice.{opening-price-is-best}
use Rattle.model.proofs.Opened.{opening-clears}
use Rattle.model.proofs.Rising.{tickers-rise}

pub returns : goal.returns
returns c = record { best = opening-price-is-best; clears = opening-clears; rising = tickers-rise }
