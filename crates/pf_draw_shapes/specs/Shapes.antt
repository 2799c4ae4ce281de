-- How SVG spells shapes.
use Rattle.std.specs.Prelude.{ℕ, List, [], ◌∷◌, ◌++◌, codes}
use Rattle.std.specs.Fmt.{decimal}
use Rattle.pf_draw_shapes.specs.Symbols.{symbol_class, symbol_path}
use Rattle.pf_draw_shapes.specs.Texts.{xml_text}
use Rattle.pf_draw_shapes.specs.declared.symbols.Symbol.{Symbol}
use Rattle.pf_draw_shapes.specs.declared.shapes.Point.{Point}
use Rattle.pf_draw_shapes.specs.declared.shapes.TextKind.{TextKind}
use Rattle.pf_draw_shapes.specs.declared.shapes.TextKind.TheVariants.{Heading, Number, Source, Told}
use Rattle.pf_draw_shapes.specs.declared.shapes.ArrowKind.{ArrowKind}
use Rattle.pf_draw_shapes.specs.declared.shapes.ArrowKind.TheVariants.{Taken, Refused, Lost, Left}
use Rattle.pf_draw_shapes.specs.declared.shapes.BlockKind.{BlockKind}
use Rattle.pf_draw_shapes.specs.declared.shapes.BlockKind.TheVariants.{Call, Move}
use Rattle.pf_draw_shapes.specs.declared.shapes.Shape.{Shape}
use Rattle.pf_draw_shapes.specs.declared.shapes.Shape.TheVariants.{Rule, Text, Entry, Arrow, Block}

abbrev pub text_class : TextKind → List ℕ
text_class Heading = codes "l"
text_class Number = codes "n"
text_class Source = codes "s"
text_class Told = codes "t"

abbrev pub arrow_class : ArrowKind → List ℕ
arrow_class Taken = codes "p"
arrow_class Refused = codes "q"
arrow_class Lost = codes "x"
arrow_class Left = codes "o"

abbrev pub block_class : BlockKind → List ℕ
block_class Call = codes "u"
block_class Move = codes "m"

-- two numbers with a text before, between and behind them
abbrev pub two_decimals : (before : List ℕ) (first : ℕ) (between : List ℕ) (second : ℕ) (behind : List ℕ) → List ℕ
two_decimals before first between second behind = before ++ decimal first ++ between ++ decimal second ++ behind

-- a title, where there is one
abbrev pub title_svg : List ℕ → List ℕ
title_svg [] = []
title_svg (byte ∷ bytes) = codes "<title>" ++ xml_text (byte ∷ bytes) ++ codes "</title>"

-- a text behind its title
abbrev pub titled_svg : (text title : List ℕ) → List ℕ
titled_svg text title = title_svg title ++ xml_text text

-- the begin of an element of a class
abbrev pub begin_svg : (name class : List ℕ) → List ℕ
begin_svg name class = 60 ∷ name ++ codes " class='" ++ class

-- the end of an element, and a line feed
abbrev pub end_svg : (name : List ℕ) → List ℕ
end_svg name = codes "</" ++ name ++ codes ">\n"

abbrev pub rule_svg : (x top bottom : ℕ) → List ℕ
rule_svg x top bottom =
    begin_svg (codes "path") (codes "r") ++ two_decimals (codes "' d='M") x (codes " ") top (codes "V") ++ decimal bottom ++ codes "'>"
    ++ end_svg (codes "path")

abbrev pub text_svg : Point → TextKind → (text title : List ℕ) → List ℕ
text_svg at kind text title =
    begin_svg (codes "text") (text_class kind) ++ two_decimals (codes "' x='") at.x (codes "' y='") at.y (codes "'>") ++ titled_svg text title
    ++ end_svg (codes "text")

-- the symbol, and the label, each from the point of the group on
abbrev pub symbol_svg : Symbol → List ℕ
symbol_svg symbol = begin_svg (codes "path") (symbol_class symbol) ++ codes "' d='" ++ symbol_path symbol ++ codes "'/>"

abbrev pub label_svg : List ℕ → List ℕ
label_svg label = codes "<text x='9' y='4'>" ++ xml_text label ++ codes "</text>"

abbrev pub entry_svg : Point → Symbol → (label title : List ℕ) → List ℕ
entry_svg at symbol label title =
    two_decimals (codes "<g transform='translate(") at.x (codes " ") at.y (codes ")'>") ++ title_svg title ++ symbol_svg symbol ++ label_svg label
    ++ end_svg (codes "g")

abbrev pub arrow_svg : (from to : Point) → ArrowKind → (title : List ℕ) → List ℕ
arrow_svg from to kind title =
    begin_svg (codes "path") (arrow_class kind)
    ++ two_decimals (codes "' d='M") from.x (codes " ") from.y (codes "L")
    ++ two_decimals [] to.x (codes " ") to.y (codes "'>")
    ++ title_svg title
    ++ end_svg (codes "path")

abbrev pub block_svg : Point → (width height : ℕ) → BlockKind → (title : List ℕ) → List ℕ
block_svg at width height kind title =
    begin_svg (codes "rect") (block_class kind)
    ++ two_decimals (codes "' x='") at.x (codes "' y='") at.y (codes "' width='")
    ++ two_decimals [] width (codes "' height='") height (codes "'>")
    ++ title_svg title
    ++ end_svg (codes "rect")

abbrev pub shape_svg : Shape → List ℕ
shape_svg (Rule x top bottom) = rule_svg x top bottom
shape_svg (Text at kind text title) = text_svg at kind text title
shape_svg (Entry at symbol label title) = entry_svg at symbol label title
shape_svg (Arrow from to kind title) = arrow_svg from to kind title
shape_svg (Block at width height kind title) = block_svg at width height kind title
