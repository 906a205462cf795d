-- What the disks of this crate mean, and what each keeps.
use Rattle.std.specs.Prelude.{◌≡◌, ℕ, ◌-◌, Bool, false, List, [], length, take, None, nat_eq}
use Rattle.std.specs.Prelude.{nat_lt, ◌||◌}
use Rattle.disk_model.specs.Meaning.{Meaning, with_faults}
use Rattle.disk_model.specs.Calls.{steps_of}
use Rattle.disk_model.specs.Images.{Step, State, begun, run}
use Rattle.disk_model.specs.Memory.{meaning_of}
use Rattle.disk_model.specs.declared.mem_disk.MemDisk.{MemDisk}
use Rattle.disk_model.specs.declared.fuse_disk.FuseDisk.{FuseDisk}
use Rattle.disk_model.specs.declared.sure_disk.SureDisk.{SureDisk}

abbrev pub memory_meaning : MemDisk → Meaning
memory_meaning d =
    meaning_of d.first.items (steps_of d.calls.items d.written.items) d.bytes.items d.faults

-- what it held at first
abbrev pub memory_first : MemDisk → List ℕ
memory_first d = d.first.items

-- its writes and syncs, the first of them first
abbrev pub memory_steps : MemDisk → List Step
memory_steps d = steps_of d.calls.items d.written.items

-- what it was at a moment: what a read gave then, what the last sync had left, and the ranges
-- written since
abbrev pub memory_state : MemDisk → ℕ → State
memory_state d moment = run (begun (memory_first d)) (take moment (memory_steps d))

-- what a read gives
abbrev pub memory_bytes : MemDisk → List ℕ
memory_bytes d = d.bytes.items

-- how many more writes and syncs its list has room for
abbrev pub calls_left : MemDisk → ℕ
calls_left d = d.most - length d.calls.items

-- how many more bytes it has room for
abbrev pub room_left : MemDisk → ℕ
room_left d = d.room - length d.written.items

-- a write of n bytes fails
abbrev pub write_fails : MemDisk → ℕ → Bool
write_fails d n = nat_eq (calls_left d) 0 || nat_lt (room_left d) n

-- of a disk in memory nothing has changed but its count of faults
pub record SameMemory (old new : MemDisk) : Type 0 where
  pub first : memory_first new ≡ memory_first old
  pub steps : memory_steps new ≡ memory_steps old
  pub bytes : memory_bytes new ≡ memory_bytes old
  pub calls : calls_left new ≡ calls_left old
  pub room : room_left new ≡ room_left old

-- a sync fails
abbrev pub sync_fails : MemDisk → Bool
sync_fails d = nat_eq (calls_left d) 0

abbrev pub fuse_meaning : FuseDisk → Meaning
fuse_meaning f = with_faults (memory_meaning f.inner) f.faults

-- how many more calls it passes on
abbrev pub fuse_passes : FuseDisk → ℕ
fuse_passes f = f.passes

abbrev pub fuse_faults : FuseDisk → ℕ
fuse_faults f = f.faults

abbrev pub fuse_inner : FuseDisk → MemDisk
fuse_inner f = f.inner

-- it tells nothing, keeps to no model and never fails
abbrev pub sure_meaning : Meaning
sure_meaning = record {
  seen = None;
  may_leave = λ _. ⊥;
  moment = 0;
  left_since = λ _ _. ⊥;
  faults = 0;
  is_honest = false;
  names = [];
}

-- the greatest end of a write
abbrev pub sure_len : SureDisk → ℕ
sure_len d = d.len
