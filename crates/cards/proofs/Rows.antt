-- Lines of cards and what they say, computed: each row pins a definition of specs/ at a corner. Assumes nothing.
use mathlib.Core.Path.{◌≡◌, refl}
use mathlib.Core.List.{[], ◌∷◌}
use Rattle.std.specs.Prelude.{Some, None}
use Rattle.limits.specs.Limits.{velocity_count}
use Rattle.lists.specs.Text.{bytes}
use Rattle.lists.specs.Decimal.{is_digit, digits_after, numeral}
use Rattle.cards.specs.Numbers.{number, has_prefix, before, at_end, numbers, parameters_of}
use Rattle.cards.specs.Numbers.{wholly, count_of}
use Rattle.cards.specs.Ticks.{tick_is, hex_of, hexes, plain_tick, velocity_in, struck_tick, tick_line}
use Rattle.cards.specs.Says.{edition_of}

-- SPEC 10.2: the line of each edition, and lines of none.
edition-1 : edition_of (bytes "edition=1") ≡ Some 1
edition-1 = refl

edition-2 : edition_of (bytes "edition=2") ≡ Some 2
edition-2 = refl

edition-0 : edition_of (bytes "edition=0") ≡ None
edition-0 = refl

edition-3 : edition_of (bytes "edition=3") ≡ None
edition-3 = refl

edition-12 : edition_of (bytes "edition=12") ≡ None
edition-12 = refl

edition-bare : edition_of (bytes "edition=") ≡ None
edition-bare = refl

-- SPEC 10.3: eight parameters, no fewer, no more, none above its range.
eight : parameters_of (bytes "k=0,10,200,3000,40000,500000,6,999999")
    ≡ Some (0 ∷ 10 ∷ 200 ∷ 3000 ∷ 40000 ∷ 500000 ∷ 6 ∷ 999999 ∷ [])
unfolding parameters_of has_prefix numbers before at_end number numeral digits_after is_digit
eight = refl

seven : parameters_of (bytes "k=0,0,0,0,0,0,0") ≡ None
unfolding parameters_of has_prefix numbers before at_end number numeral digits_after is_digit
seven = refl

nine : parameters_of (bytes "k=0,0,0,0,0,0,0,0,0") ≡ None
unfolding parameters_of has_prefix numbers before at_end number numeral digits_after is_digit
nine = refl

too_large : parameters_of (bytes "k=0,0,0,0,0,0,0,1000000") ≡ None
unfolding parameters_of has_prefix numbers before at_end number numeral digits_after is_digit
too_large = refl

-- SPEC 10.5: the number of ticks, its digits by SPEC 2.8.
five : count_of (bytes "ticks=5") ≡ Some 5
unfolding count_of has_prefix wholly number numeral digits_after is_digit
five = refl

no-ticks : count_of (bytes "ticks=0") ≡ Some 0
unfolding count_of has_prefix wholly number numeral digits_after is_digit
no-ticks = refl

needless : count_of (bytes "ticks=05") ≡ None
unfolding count_of has_prefix wholly number numeral digits_after is_digit
needless = refl

nothing : count_of (bytes "ticks=") ≡ None
unfolding count_of has_prefix wholly number numeral digits_after is_digit
nothing = refl

-- SPEC 10.6: signal 0, signals 0 and 1, signal 63, signal 32, in the edition with no velocity.
signal-0 : tick_line velocity_count 1 (bytes "t=1,0000000000000001") ≡ tick_is 1 1 0
unfolding tick_line plain_tick hexes hex_of is_digit
signal-0 = refl

signals-0-1 : tick_line velocity_count 1 (bytes "t=0,0000000000000003") ≡ tick_is 0 3 0
unfolding tick_line plain_tick hexes hex_of is_digit
signals-0-1 = refl

signal-63 : tick_line velocity_count 1 (bytes "t=0,8000000000000000") ≡ tick_is 0 9223372036854775808 0
unfolding tick_line plain_tick hexes hex_of is_digit
signal-63 = refl

signal-32 : tick_line velocity_count 1 (bytes "t=0,0000000100000000") ≡ tick_is 0 4294967296 0
unfolding tick_line plain_tick hexes hex_of is_digit
signal-32 = refl

-- Each digit at its place, and bytes that are none.
all_digits : tick_line velocity_count 1 (bytes "t=0,fedcba9876543210") ≡ tick_is 0 18364758544493064720 0
unfolding tick_line plain_tick hexes hex_of is_digit
all_digits = refl

uppercase : tick_line velocity_count 1 (bytes "t=0,000000000000000A") ≡ None
unfolding tick_line plain_tick hexes hex_of is_digit
uppercase = refl

no_start : tick_line velocity_count 1 (bytes "t=2,0000000000000001") ≡ None
unfolding tick_line plain_tick hexes hex_of is_digit
no_start = refl

no-velocity-there : tick_line velocity_count 1 (bytes "t=1,0000000000000001,0") ≡ None
unfolding tick_line plain_tick
no-velocity-there = refl

-- With a velocity: the least, one in between, the highest, and one above it.
velocity-0 : tick_line velocity_count 2 (bytes "t=1,0000000000000001,0") ≡ tick_is 1 1 0
unfolding tick_line struck_tick plain_tick hexes hex_of is_digit velocity_in wholly number numeral
velocity-0 = refl

velocity-90 : tick_line velocity_count 2 (bytes "t=0,8000000000000000,90") ≡ tick_is 0 9223372036854775808 90
unfolding tick_line struck_tick plain_tick hexes hex_of is_digit velocity_in wholly number numeral digits_after
velocity-90 = refl

velocity-127 : tick_line velocity_count 2 (bytes "t=1,0000000000000000,127") ≡ tick_is 1 0 127
unfolding tick_line struck_tick plain_tick hexes hex_of is_digit velocity_in wholly number numeral digits_after
velocity-127 = refl

velocity-128 : tick_line velocity_count 2 (bytes "t=1,0000000000000000,128") ≡ None
unfolding tick_line struck_tick plain_tick hexes hex_of is_digit velocity_in wholly number numeral digits_after
velocity-128 = refl

-- Missing, with or without its comma, signed, with a needless 0, and with a byte behind it.
velocity-missing : tick_line velocity_count 2 (bytes "t=1,0000000000000001") ≡ None
unfolding tick_line struck_tick plain_tick hexes hex_of is_digit velocity_in wholly
velocity-missing = refl

velocity-bare : tick_line velocity_count 2 (bytes "t=1,0000000000000001,") ≡ None
unfolding tick_line struck_tick plain_tick hexes hex_of is_digit velocity_in wholly number numeral
velocity-bare = refl

velocity-signed : tick_line velocity_count 2 (bytes "t=1,0000000000000001,+5") ≡ None
unfolding tick_line struck_tick plain_tick hexes hex_of is_digit velocity_in wholly number numeral
velocity-signed = refl

velocity-needless : tick_line velocity_count 2 (bytes "t=1,0000000000000001,05") ≡ None
unfolding tick_line struck_tick plain_tick hexes hex_of is_digit velocity_in wholly number numeral
velocity-needless = refl

velocity-space : tick_line velocity_count 2 (bytes "t=1,0000000000000001,5 ") ≡ None
unfolding tick_line struck_tick plain_tick hexes hex_of is_digit velocity_in wholly number numeral digits_after
velocity-space = refl

-- In front of it each digit counts as in the other line.
velocity-uppercase : tick_line velocity_count 2 (bytes "t=0,000000000000000A,5") ≡ None
unfolding tick_line struck_tick plain_tick hexes hex_of is_digit velocity_in wholly number numeral digits_after
velocity-uppercase = refl
