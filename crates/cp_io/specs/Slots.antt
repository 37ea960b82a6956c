-- One role of a desk in memory.
use Rattle.std.specs.Prelude.{ℕ, ◌+◌, ◌-◌, ◌^◌, min, List, [], Some, None, drop, vec_len, vec_capacity}
use Rattle.std.specs.Option.{option_map}
use Rattle.cp_io.specs.declared.slots.Slot.{Slot}
use Rattle.cp_io.specs.Port.{Port}

-- a role of which nothing was read or written, with these bytes to read
abbrev pub fresh_port : List ℕ → Port
fresh_port input = record { way = None; name = None; left = Some input; held = Some []; read_faults = 0; write_faults = 0; bind_faults = λ _ _. 0 }

-- the bytes that are still to be read
abbrev pub slot_left : Slot → List ℕ
slot_left s = drop s.at s.input.items

abbrev pub slot_port : Slot → Port
slot_port s = record {
  way = s.way;
  name = option_map (λ _. s.name.items) s.way;
  left = Some (slot_left s);
  held = Some s.output.items;
  read_faults = s.read_faults;
  write_faults = s.write_faults;
  bind_faults = λ _ _. s.bind_faults;
}

-- how many bytes can be written without more memory
abbrev pub slot_room : Slot → ℕ
slot_room s = vec_capacity s.output - vec_len s.output

-- a count after one more; at its last value it stays
abbrev pub next_count : ℕ → ℕ
next_count n = min (n + 1) (2 ^ 64 - 1)
