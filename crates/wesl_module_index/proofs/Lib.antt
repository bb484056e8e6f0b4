mod Bits
mod Pushed
mod Trails
mod Scopes
mod Items
mod Gathering
mod Sensing
mod Tabled
