mod LaidOut
mod Linked
mod Refused
