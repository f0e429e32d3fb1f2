-- The page that says a content, line by line. Assumes nothing.
use Rattle.std.specs.Prelude.{ℕ, List, [], ◌∷◌, ◌++◌, length, count_ones}
use Rattle.std.specs.List.{flat_map}
use Rattle.seats.specs.Lists.{seats_of}
use Rattle.columns.specs.declared.words.Word.{Word}
use Rattle.columns.specs.declared.words.Word.TheVariants as word
use Rattle.columns.specs.Rows.{row, line}
use Rattle.legs.specs.declared.leg.Leg.{Leg}
use Rattle.grades.specs.declared.favour.Aim.{Aim}
use Rattle.grades.specs.declared.favour.Aim.TheVariants.{Most, Least}
use Rattle.readings.specs.declared.orders.CapOrder.{CapOrder}
use Rattle.readings.specs.declared.orders.CarryOrder.{CarryOrder}
use Rattle.readings.specs.declared.orders.FavourOrder.{FavourOrder}
use Rattle.readings.specs.declared.orders.ShareOrder.{ShareOrder}
use Rattle.readings.specs.declared.rows.Group.{Group}
use Rattle.readings.specs.declared.rows.SeatRange.{SeatRange}
use Rattle.readings.specs.declared.rows.Turn.{Turn}
use Rattle.readings.specs.Contents.{Work, turns, legs, nests, Ordered, Content}

-- a list of seats: how many there are, and then each, rising
abbrev pub listed : ℕ → List ℕ
listed set = count_ones set ∷ seats_of set

-- a turn: how many it needs, and its licensed seats
abbrev pub turn_text : Turn → List ℕ
turn_text turn = row (turn.need ∷ listed turn.licensed)

-- a leg: its two ends and its passages
abbrev pub leg_text : Leg → List ℕ
leg_text leg = row (leg.a ∷ leg.b ∷ leg.passages ∷ [])

-- a group: its parent and the limits of its total
abbrev pub group_text : Group → List ℕ
group_text group = row (group.parent ∷ group.lo ∷ group.hi ∷ [])

-- a seat of nests: its group and the limits of its load
abbrev pub range_text : SeatRange → List ℕ
range_text range = row (range.group ∷ range.lo ∷ range.hi ∷ [])

abbrev pub carry_text : CarryOrder → List ℕ
carry_text o = line word.Carry (o.seat ∷ o.carried ∷ [])

abbrev pub cap_text : CapOrder → List ℕ
cap_text o = line word.Cap (o.seat ∷ o.lo ∷ o.hi ∷ [])

abbrev pub aim_word : Aim → Word
aim_word Most = word.Most
aim_word Least = word.Least

abbrev pub favour_text : FavourOrder → List ℕ
favour_text o = line (aim_word o.aim) (listed o.set)

abbrev pub share_text : ShareOrder → List ℕ
share_text o = line word.Share (o.seat ∷ o.weight ∷ [])

-- the word of the first line
abbrev pub work_word : Work → Word
work_word (turns rows) = word.Turns
work_word (legs rows) = word.Legs
work_word (nests groups ranges) = word.Nests

-- how many turns, legs or groups there are
abbrev pub work_count : Work → ℕ
work_count (turns rows) = length rows
work_count (legs rows) = length rows
work_count (nests groups ranges) = length groups

-- a line for each turn, or for each leg, or for each group and then for each seat
abbrev pub work_text : Work → List ℕ
work_text (turns rows) = flat_map turn_text rows
work_text (legs rows) = flat_map leg_text rows
work_text (nests groups ranges) = flat_map group_text groups ++ flat_map range_text ranges

-- the first line
abbrev pub head_text : Content → List ℕ
head_text c = line (work_word c.work) (c.seats ∷ work_count c.work ∷ c.budget ∷ [])

-- the orders, kind after kind, and END
abbrev pub orders_text : Ordered → List ℕ
orders_text o = flat_map carry_text o.carries ++ (flat_map cap_text o.caps ++ (flat_map favour_text o.favours ++ (flat_map share_text o.shares ++ line word.End [])))

-- the page
unfoldable pub text_of : Content → List ℕ
text_of c = head_text c ++ (work_text c.work ++ orders_text c.orders)
