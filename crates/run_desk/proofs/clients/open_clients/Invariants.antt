use Rattle.std.proofs.Common.{◌≡◌, ◌+◌, vec_len, vec_capacity}
use Rattle.run_desk.specs.Desk.{KeepsNumbers, KeepsBoard, OpensClients}
use Rattle.run_desk.proofs.clients.open_clients.Given as goal

-- so far each client was opened, and the rest stays
abbrev pub invariant-opened : goal.invariant-opened
invariant-opened g l = record {
  opens : OpensClients (g.D.Desk.seen l.initial.desk) (g.D.Desk.seen l.desk) l.first (l.first + l.place) l.initial.clients.items l.clients.items;
  numbers : KeepsNumbers (g.D.Desk.seen l.initial.desk) (g.D.Desk.seen l.desk);
  board : KeepsBoard (g.D.Desk.seen l.initial.desk) (g.D.Desk.seen l.desk);
  quiet : (g.D.Desk.seen l.desk).faults ≡ (g.D.Desk.seen l.initial.desk).faults;
  len : vec_len l.clients ≡ vec_len l.initial.clients + l.place;
  room : vec_capacity l.clients ≡ vec_capacity l.initial.clients;
}
