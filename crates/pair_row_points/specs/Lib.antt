pub mod Format2
