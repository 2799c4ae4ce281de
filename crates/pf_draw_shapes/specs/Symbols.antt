-- The colours and the forms of symbols.
use Rattle.std.specs.Prelude.{ℕ, List, codes}
use Rattle.pf_draw_shapes.specs.declared.symbols.Symbol.{Symbol}
use Rattle.pf_draw_shapes.specs.declared.symbols.Symbol.TheVariants.{Sent, Taken, Refused, Lost, Left, Stored, Chosen, Applied, Told, Asks, Leads, Serves, Follows, Stops, Fails, Starts, Kept, Image}

-- packets, what is stored, what is lasting, what is lost, elections, who leads
abbrev pub symbol_class : Symbol → List ℕ
symbol_class Sent = codes "a"
symbol_class Taken = codes "b"
symbol_class Refused = codes "a"
symbol_class Lost = codes "e"
symbol_class Left = codes "a"
symbol_class Stored = codes "c"
symbol_class Chosen = codes "d"
symbol_class Applied = codes "d"
symbol_class Told = codes "c"
symbol_class Asks = codes "g"
symbol_class Leads = codes "h"
symbol_class Serves = codes "h"
symbol_class Follows = codes "g"
symbol_class Stops = codes "e"
symbol_class Fails = codes "e"
symbol_class Starts = codes "g"
symbol_class Kept = codes "g"
symbol_class Image = codes "c"

-- around the point 0 0
abbrev pub symbol_path : Symbol → List ℕ
symbol_path Sent = codes "M-4-4L4 0L-4 4z"
symbol_path Taken = codes "M-4 0a4 4 0 1 0 8 0a4 4 0 1 0-8 0"
symbol_path Refused = codes "M-4 0a4 4 0 1 0 8 0a4 4 0 1 0-8 0M-5 5L5-5"
symbol_path Lost = codes "M-4-4L4 4M4-4L-4 4"
symbol_path Left = codes "M-4 0a4 4 0 1 0 8 0a4 4 0 1 0-8 0"
symbol_path Stored = codes "M-4-4h8v8h-8z"
symbol_path Chosen = codes "M-4-4h8v8h-8z"
symbol_path Applied = codes "M0-5L5 4H-5z"
symbol_path Told = codes "M-4 0L-1 4L5-5"
symbol_path Asks = codes "M-3 5V-5L5-2L-3 1"
symbol_path Leads = codes "M-5 4V-4L-2 0L0-5L2 0L5-4V4z"
symbol_path Serves = codes "M0-5L5 0L0 5L-5 0z"
symbol_path Follows = codes "M0-5L5 0L0 5L-5 0z"
symbol_path Stops = codes "M-6 0H6"
symbol_path Fails = codes "M2-6L-3 1H3L-2 6"
symbol_path Starts = codes "M0 5V-5M-4-1L0-5L4-1"
symbol_path Kept = codes "M-6-2H6M-6 2H6"
symbol_path Image = codes "M-4-4h8v8h-8zL4 4"
