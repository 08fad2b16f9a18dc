-- The adapter over a socket.
use Rattle.std.specs.Prelude.{ℕ, Option, option_map}
use Rattle.mesh_link.specs.declared.udp.UdpLink.{UdpLink}
use Rattle.mesh_link.specs.declared.udp.Opened.{Opened}

-- the port at which the link is open
abbrev pub port_of : {R : Type 0} → UdpLink R → Option ℕ
port_of link = option_map (λ o. o.port) link.opened

-- how often the link has failed
abbrev pub faults_of : {R : Type 0} → UdpLink R → ℕ
faults_of link = link.faults
