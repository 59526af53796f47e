-- Workers with fewer attempts fit.
use Rattle.row_model.specs.Fold.{Operator}
use Rattle.worker_laws.specs.Fewer.{FewerFit, IdleFit}
use Rattle.worker_laws.proofs.Attempts.{holds_fewer}

pub fewer_attempts_fit : (merge : Operator) → FewerFit merge
fewer_attempts_fit merge world w keep h = holds_fewer merge world w keep h

pub idle_workers_fit : (merge : Operator) → IdleFit merge
idle_workers_fit merge world number release = record { fits = λ specs faithful. record { cuts = tt; each = tt; live = tt }; each = tt; jobs_rise = tt; own = tt; apart = tt }
