pub mod Outgoing
pub mod Datagram
pub mod Tally
pub mod Acts
pub mod Sending
pub mod Turns
pub mod Laws
