use Rattle.std.proofs.Common.{◌≡◌, suc, ◌-◌, ◌^◌, ◌<◌, ◌++◌, take}
use Rattle.number.specs.Forms.{spread}
use Rattle.number.proofs.writing.write.Given as goal

-- the bytes put so far, and what is still to be put, are the whole form
abbrev pub invariant-loop-byte : goal.invariant-loop-byte
invariant-loop-byte l = record {
  small : l.rest < 128 ^ suc (l.byte-index-end - l.byte-index);
  put : take l.byte-index l.byte-items ++ spread (suc (l.byte-index-end - l.byte-index)) l.rest ≡ spread (suc l.byte-index-end) l.value;
}
