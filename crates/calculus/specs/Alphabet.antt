-- The letters that cells hold, each as the number of its character.
use Rattle.std.specs.Prelude.{ℕ}

-- b
abbrev pub kind_bit : ℕ
kind_bit = 98

-- q
abbrev pub kind_qubit : ℕ
kind_qubit = 113

-- u
abbrev pub kind_unit : ℕ
kind_unit = 117

-- !
abbrev pub kind_bang : ℕ
kind_bang = 33

-- >
abbrev pub kind_arrow : ℕ
kind_arrow = 62

-- *
abbrev pub kind_pair : ℕ
kind_pair = 42

-- v
abbrev pub op_variable : ℕ
op_variable = 118

-- q
abbrev pub op_qubit : ℕ
op_qubit = 113

-- g
abbrev pub op_gate : ℕ
op_gate = 103

-- 0
abbrev pub op_zero : ℕ
op_zero = 48

-- 1
abbrev pub op_one : ℕ
op_one = 49

-- m
abbrev pub op_measure : ℕ
op_measure = 109

-- n
abbrev pub op_new : ℕ
op_new = 110

-- s
abbrev pub op_unit : ℕ
op_unit = 115

-- l
abbrev pub op_function : ℕ
op_function = 108

-- a
abbrev pub op_application : ℕ
op_application = 97

-- p
abbrev pub op_pair : ℕ
op_pair = 112

-- d
abbrev pub op_let : ℕ
op_let = 100

-- i
abbrev pub op_condition : ℕ
op_condition = 105
