-- What loading, Run, Path and the stock of numbers answer, as structs of numbers for C and Rust.
use Rattle.std.specs.Prelude.{ℕ, get_or}
use Rattle.rules.specs.Lent.{Answer}
use Rattle.birdweekly.specs.declared.LoadNumbers.{LoadNumbers}
use Rattle.birdweekly.specs.declared.RunNumbers.{RunNumbers}
use Rattle.birdweekly.specs.declared.PathNumbers.{PathNumbers}
use Rattle.birdweekly.specs.declared.StockNumbers.{StockNumbers}
use Rattle.birdweekly.specs.declared.Numbers.{Numbers}

-- an answer's value at a place of its list, 0 where there is none
abbrev value : Answer → ℕ → ℕ
value a i = get_or a.values i 0

abbrev pub load_numbers : Answer → LoadNumbers
load_numbers a = record { number = a.number; place = a.place; parties = value a 0; terms = value a 1; commands = value a 2 }

abbrev pub run_numbers : Answer → RunNumbers
run_numbers a = record { number = a.number; place = a.place; accepted = value a 0; refused = value a 1; issued = value a 2 }

abbrev pub path_numbers : Answer → PathNumbers
path_numbers a = record { number = a.number; place = a.place; steps = value a 0 }

abbrev pub stock_numbers : Answer → StockNumbers
stock_numbers a = record { number = a.number; place = a.place; boards = value a 0; rest = value a 1 }

-- any answer of at most three values
abbrev pub numbers_of : Answer → Numbers
numbers_of a = record { number = a.number; place = a.place; first = value a 0; second = value a 1; third = value a 2 }
